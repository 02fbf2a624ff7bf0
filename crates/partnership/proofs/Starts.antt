-- Where the lowest runs begin in the maps of disks, looked up one after the other.
use Rattle.std.proofs.Common.{◌≡◌, refl, ℕ, ◌+◌, ◌<◌, ◌≤◌, List, length, get_or, set, replicate, min, sym, ap, ◌∙◌, Option, None, arith, inl, inr}
use Rattle.std.specs.List.{slice_get}
use Rattle.std.specs.Option.{option_and_then}
use Rattle.std.proofs.lemmas.Bool.{cases_eq, cases_lt}
use Rattle.std.proofs.lemmas.List.{get_or-replicate, get_or-set_same, get_or-set_other, length-set, length-replicate}
use Rattle.std.proofs.lemmas.Option.{slice_get_past, slice_get_read}
use Rattle.allocator.specs.UnitMaps.{UnitMap}
use Rattle.partnership.specs.Candidates.{lowest}
use Rattle.partnership.specs.Rooms.{AreStarts}

-- those of the maps before a place, and none behind it
pub record AreStartsTo (n : ℕ) (ms : List UnitMap) (starts : List (Option ℕ)) (to : ℕ) : Type 0 where
  pub all : length starts ≡ 256
  pub before : (d : ℕ) → d < to → get_or starts d None ≡ option_and_then (lowest n) (slice_get ms d)
  pub behind : (d : ℕ) → d < 256 → to ≤ d → get_or starts d None ≡ None

pub starts_none : (n : ℕ) (ms : List UnitMap) → AreStartsTo n ms (replicate 256 None) 0
starts_none n ms = record {
  all = length-replicate {A = Option ℕ} 256 None;
  before = λ d lt. absurd (omega arith);
  behind = λ d lt low. get_or-replicate {A = Option ℕ} 256 d None None lt;
}

pub starts_more : (n : ℕ) (ms : List UnitMap) (starts : List (Option ℕ)) (i : ℕ) (m : UnitMap) (found : Option ℕ) → i < 256 → i < length ms → m ≡ get_or ms i m → found ≡ lowest n m → AreStartsTo n ms starts i
    → AreStartsTo n ms (set starts i found) (i + 1)
starts_more n ms starts i m found few within there is so_far = record {
  all = length-set starts i found ∙ so_far.all;
  before = λ d lt. elim (cases_eq d i) [
    | inl same ↦ rw same (get_or-set_same starts i found None (omega (arith, so_far.all)) ∙ is ∙ sym (ap (option_and_then (lowest n)) (slice_get_read ms (length ms) i m refl within there)))
    | inr other ↦ get_or-set_other starts i d found None other ∙ so_far.before d (omega arith)
  ];
  behind = λ d lt low. get_or-set_other starts i d found None (λ e. omega (arith, e)) ∙ so_far.behind d lt (omega arith);
}

pub starts_all : (n : ℕ) (ms : List UnitMap) (starts : List (Option ℕ)) (i end : ℕ) → end ≡ min (length ms) 256 → end ≤ i → AreStartsTo n ms starts i → AreStarts n ms starts
starts_all n ms starts i end is past so_far = record {
  all = so_far.all;
  each = λ d lt. elim (cases_lt d i) [
    | inl before ↦ so_far.before d before
    | inr behind ↦ so_far.behind d lt behind ∙ sym (ap (option_and_then (lowest n)) (slice_get_past ms d (omega arith)))
  ];
}
