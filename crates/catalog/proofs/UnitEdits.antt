-- The units where the homes of one chunk change.
use Rattle.std.proofs.Common.{◌≡◌, ◌<◌, ◌+◌, ℕ, zero, suc, Bool, true, false, List, [], ◌∷◌, ◌++◌, length, get_or, append_assoc, Option, Some, None, refl, sym, ap, ◌∙◌, arith, inl, inr}
use Rattle.std.specs.Prelude.{◌&&◌, not, flat_map, slice_set}
use Rattle.std.specs.Option.{option_and_then}
use Rattle.std.specs.BTreeMap.{is_at}
use Rattle.std.proofs.lemmas.List.{length-set, set-get_or}
use Rattle.std.proofs.lemmas.Option.{none-some}
use Rattle.asm_formats.specs.Items.{Home, Homes}
use Rattle.asm_placement.specs.Layout.{units_of}
use Rattle.asm_placement.specs.Placed.{Placed, placed_copies, placed_extents}
use Rattle.asm_base.specs.Records.{Ascend}
use Rattle.asm_base.proofs.Exact.{bind_some, some_is}
use Rattle.plan_records.specs.allocator.UnitMaps.{UnitMap, with_run}
use Rattle.plan_records.specs.extent_map.Extents.{Chunked, chunk_at}
use Rattle.asm_base.specs.Chunks.{Chunk, chunk_cmp, is_chunk_before}
use Rattle.plan_records.proofs.extent_map.Laws.{chunk_total, same_chunk}
use Rattle.plan_records.proofs.extent_map.Lookups.{both_ways}
use Rattle.plan_records.proofs.extent_map.Numbering.{is_same, tail_up}
use Rattle.plan_records.specs.catalog_units.Giving.{but, chunks_kept}
use Rattle.plan_records.specs.catalog_tables.Placing.{after_chunks, after_homes, home_taken, homes_of}
use Rattle.plan_records.proofs.catalog_units.ChangeUnits.{kept_same}
use Rattle.plan_records.proofs.catalog_units.ChunkUnits.{and_false, and_true, kept_all, kept_no, kept_yes, none_out, one_out, tail_none}
use Rattle.plan_records.proofs.catalog_tables.EntryLaws.{either}
use Rattle.plan_records.proofs.catalog_tables.HomeUnits.{chunks_are_homes, takes}
use Rattle.plan_records.proofs.catalog_tables.PlacingLaws.{after_append}
use Rattle.plan_records.proofs.catalog_units.UnitOrder.{front_last}

-- ---- rows of homes

pub cut : (ms z : List UnitMap) (ps qs : List Placed) → after_homes ms (ps ++ qs) ≡ Some z → (a : List UnitMap) × (after_homes ms ps ≡ Some a) × (after_homes a qs ≡ Some z)
cut ms z ps qs e = bind_some (λ (a : List UnitMap). after_homes a qs) (after_homes ms ps) z (sym (after_append ms ps qs) ∙ e)

pub glue : (ms a z : List UnitMap) (ps qs : List Placed) → after_homes ms ps ≡ Some a → after_homes a qs ≡ Some z → after_homes ms (ps ++ qs) ≡ Some z
glue ms a z ps qs first rest = after_append ms ps qs ∙ ap (λ (o : Option (List UnitMap)). option_and_then (λ next. after_homes next qs) o) first ∙ rest

-- some homes in the midst are taken in place of others, where they find their units free while those are taken too
pub in_place : (c ms z : List UnitMap) (front back old new : List Placed) → after_homes c (front ++ (old ++ back)) ≡ Some ms → after_homes ms new ≡ Some z → (y : List UnitMap) × (after_homes c (front ++ (new ++ back)) ≡ Some y)
in_place c ms z front back old new e more =
    let f = cut c ms front (old ++ back) e in
    let o = front_last f.0 ms old back f.2 in
    let n = front_last o.0 z old new (glue o.0 ms z old new o.2 more) in
    let b = front_last f.0 n.0 back new (glue f.0 o.0 n.0 back new o.1 n.1) in
    (n.0, glue c f.0 n.0 front (new ++ back) f.1 (glue f.0 b.0 n.0 new back b.1 b.2))

-- there are as many maps then
pub as_many : (ms z : List UnitMap) (ps : List Placed) → after_homes ms ps ≡ Some z → length z ≡ length ms
unfolding after_homes
as_many ms z [] e = ap length (sym (some_is ms z e))
as_many ms z (p ∷ ps) e =
    let b = bind_some (λ (next : List UnitMap). after_homes next ps) (home_taken ms p.home p.len) z e in
    let t = takes ms b.0 p.home p.len b.1 in
    as_many b.0 z ps b.2 ∙ ap length t.put ∙ length-set ms p.home.disk (with_run t.map_before p.home.unit p.len true)

-- ---- the chunks of a table

abbrev all : Chunk → Bool
all c = true

-- with the units of the others, the homes of one chunk may be taken last
pub one_in : (step : ℕ) (ms c z : List UnitMap) (keep : Chunk → Bool) (k : Chunk) (homes : List Homes) (t : List Chunked) → Ascend is_chunk_before t → keep k ≡ true → chunk_at t k ≡ Some homes
    → after_chunks step ms (chunks_kept (but keep k) t) ≡ Some c → after_homes c (homes_of step (k, homes)) ≡ Some z → after_chunks step ms (chunks_kept keep t) ≡ Some z
unfolding after_chunks
one_in step ms c z keep k homes [] up is there e f = absurd (none-some homes there)
one_in step ms c z keep k homes (x ∷ t) up is there e f = elim (either (is_at (chunk_cmp k) x.0)) [
  | inl here ↦
      let equal = is_same (chunk_cmp k x.0) here in
      let same = same_chunk k x.0 equal in
      let its : x.1 ≡ homes = some_is x.1 homes (rw here at there) in
      let kept : keep x.0 ≡ true = ap keep (sym same) ∙ is in
      let out : but keep k x.0 ≡ false = ap (λ (b : Bool). keep x.0 && not b) here ∙ and_false (keep x.0) in
      let rest : chunks_kept (but keep k) (x ∷ t) ≡ chunks_kept keep t = kept_no (but keep k) x t out ∙ none_out keep k t (tail_none x t k up equal) in
      let others : after_homes ms (flat_map (homes_of step) (chunks_kept keep t)) ≡ Some c = sym (chunks_are_homes step (chunks_kept keep t) ms) ∙ ap (after_chunks step ms) (sym rest) ∙ e in
      let one : after_homes c (homes_of step x) ≡ Some z = ap (λ (hs : List Homes). after_homes c (homes_of step (x.0, hs))) its ∙ ap (λ (j : Chunk). after_homes c (homes_of step (j, homes))) (sym same) ∙ f in
      let r = front_last ms z (flat_map (homes_of step) (chunks_kept keep t)) (homes_of step x) (glue ms c z (flat_map (homes_of step) (chunks_kept keep t)) (homes_of step x) others one) in
      ap (after_chunks step ms) (kept_yes keep x t kept) ∙ chunks_are_homes step (x ∷ chunks_kept keep t) ms ∙ glue ms r.0 z (homes_of step x) (flat_map (homes_of step) (chunks_kept keep t)) r.1 r.2
  | inr other ↦
      let later : chunk_at t k ≡ Some homes = rw other at there in
      let alike : but keep k x.0 ≡ keep x.0 = ap (λ (b : Bool). keep x.0 && not b) other ∙ and_true (keep x.0) in
      elim (either (keep x.0)) [
        | inl kept ↦
            let b = bind_some (λ (next : List UnitMap). after_chunks step next (chunks_kept (but keep k) t)) (after_homes ms (homes_of step x)) c (ap (after_chunks step ms) (sym (kept_yes (but keep k) x t (alike ∙ kept))) ∙ e) in
            ap (after_chunks step ms) (kept_yes keep x t kept) ∙ ap (λ (o : Option (List UnitMap)). option_and_then (λ next. after_chunks step next (chunks_kept keep t)) o) b.1
            ∙ one_in step b.0 c z keep k homes t (tail_up x t up) is later b.2 f
        | inr gone ↦
            ap (after_chunks step ms) (kept_no keep x t gone) ∙ one_in step ms c z keep k homes t (tail_up x t up) is later (ap (after_chunks step ms) (sym (kept_no (but keep k) x t (alike ∙ gone))) ∙ e) f
      ]
]

kept_other : (k c : Chunk) → but all k c ≡ true → is_at (chunk_cmp c) k ≡ false
kept_other k c e = both_ways chunk_cmp same_chunk chunk_total c k ∙ negated (is_at (chunk_cmp k) c) e where
  negated : (b : Bool) → (true && not b) ≡ true → b ≡ false
  negated true e = absurd cc
  negated false e = refl

-- Tables that differ in a chunk, and the units of the others.
module _ (step : ℕ) (first z : List UnitMap) (k : Chunk) (t u : List Chunked) (up : Ascend is_chunk_before t) (too : Ascend is_chunk_before u)
    (others : (q : Chunk) → is_at (chunk_cmp q) k ≡ false → chunk_at u q ≡ chunk_at t q) (has : after_chunks step first t ≡ Some z) where
  same_others : chunks_kept (but all k) t ≡ chunks_kept (but all k) u
  same_others = kept_same (but all k) t u up too (λ c kept. sym (others c (kept_other k c kept)))

  whole : after_chunks step first (chunks_kept all t) ≡ Some z
  whole = ap (after_chunks step first) (kept_all all t (λ c. refl)) ∙ has

  -- a chunk that has other homes
  pub units_edited : (old new : List Homes) → chunk_at t k ≡ Some old → chunk_at u k ≡ Some new
      → ((c : List UnitMap) → after_homes c (homes_of step (k, old)) ≡ Some z → (y : List UnitMap) × (after_homes c (homes_of step (k, new)) ≡ Some y))
      → (y : List UnitMap) × (after_chunks step first u ≡ Some y)
  units_edited old new there here follows =
      let o = one_out step first z all k old t up refl there whole in
      let f = follows o.0 o.2 in
      let i = one_in step first o.0 f.0 all k new u too refl here (ap (after_chunks step first) (sym same_others) ∙ o.1) f.1 in
      (f.0, ap (after_chunks step first) (sym (kept_all all u (λ c. refl))) ∙ i)

  -- a new one
  pub units_new : (new : List Homes) → chunk_at t k ≡ None → chunk_at u k ≡ Some new → (y : List UnitMap) × (after_homes z (homes_of step (k, new)) ≡ Some y) → (y : List UnitMap) × (after_chunks step first u ≡ Some y)
  units_new new none here more =
      let before : after_chunks step first (chunks_kept (but all k) u) ≡ Some z = ap (after_chunks step first) (sym same_others ∙ none_out all k t none) ∙ whole in
      let i = one_in step first z more.0 all k new u too refl here before more.1 in
      (more.0, ap (after_chunks step first) (sym (kept_all all u (λ c. refl))) ∙ i)

  -- and one that is gone
  pub units_gone : (old : List Homes) → chunk_at t k ≡ Some old → chunk_at u k ≡ None → (y : List UnitMap) × (after_chunks step first u ≡ Some y)
  units_gone old there none =
      let o = one_out step first z all k old t up refl there whole in
      (o.0, ap (after_chunks step first) (sym (same_others ∙ none_out all k u none ∙ kept_all all u (λ c. refl))) ∙ o.1)

-- ---- the homes of a chunk with another extent or another copy

one_copy : (f i len : ℕ) (o : Option Home) (hs : Homes) → placed_copies f i len (o ∷ hs) ≡ placed_copies f i len (o ∷ []) ++ placed_copies f i len hs
one_copy f i len None hs = refl
one_copy f i len (Some h) hs = refl

-- the homes before and behind a copy
pub record Around (f i len : ℕ) (hs : Homes) (j : ℕ) : Type 0 where
  pub front : List Placed
  pub back : List Placed
  pub with_copy : (o : Option Home) → placed_copies f i len (slice_set hs j o) ≡ front ++ (placed_copies f i len (o ∷ []) ++ back)

pub around : (f i len : ℕ) (hs : Homes) (j : ℕ) → j < length hs → Around f i len hs j
around f i len [] j lt = absurd (omega (arith, lt))
around f i len (h ∷ hs) zero lt = record { front = []; back = placed_copies f i len hs; with_copy = λ o. one_copy f i len o hs }
around f i len (h ∷ hs) (suc j) lt =
    let r = around f i len hs j (omega (arith, lt)) in
    record {
      front = placed_copies f i len (h ∷ []) ++ r.front;
      back = r.back;
      with_copy = λ o.
          one_copy f i len h (slice_set hs j o) ∙ ap (λ (ps : List Placed). placed_copies f i len (h ∷ []) ++ ps) (r.with_copy o)
          ∙ sym (append_assoc (placed_copies f i len (h ∷ [])) r.front (placed_copies f i len (o ∷ []) ++ r.back));
    }

-- the homes before and behind an extent
pub record Between (step f i : ℕ) (xs : List Homes) (p : ℕ) : Type 0 where
  pub front : List Placed
  pub back : List Placed
  pub with_extent : (hs : Homes) → placed_extents step f i (slice_set xs p hs) ≡ front ++ (placed_copies f (i + p) (units_of step (i + p)) hs ++ back)

pub between : (step f i : ℕ) (xs : List Homes) (p : ℕ) → p < length xs → Between step f i xs p
between step f i [] p lt = absurd (omega (arith, lt))
between step f i (x ∷ xs) zero lt =
    let same : i + 0 ≡ i = omega arith in
    record { front = []; back = placed_extents step f (suc i) xs; with_extent = λ hs. ap (λ (n : ℕ). placed_copies f n (units_of step n) hs ++ placed_extents step f (suc i) xs) (sym same) }
between step f i (x ∷ xs) (suc p) lt =
    let r = between step f (suc i) xs p (omega (arith, lt)) in
    let index : suc i + p ≡ i + suc p = omega arith in
    record {
      front = placed_copies f i (units_of step i) x ++ r.front;
      back = r.back;
      with_extent = λ hs.
          ap (λ (ps : List Placed). placed_copies f i (units_of step i) x ++ ps) (r.with_extent hs ∙ ap (λ (n : ℕ). r.front ++ (placed_copies f n (units_of step n) hs ++ r.back)) index)
          ∙ sym (append_assoc (placed_copies f i (units_of step i) x) r.front (placed_copies f (i + suc p) (units_of step (i + suc p)) hs ++ r.back));
    }

-- a home that finds its units free is taken in place of a copy's
pub moved : (step f i : ℕ) (xs : List Homes) (p j : ℕ) (h : Home) (c ms z : List UnitMap) → p < length xs → j < length (get_or xs p []) → after_homes c (placed_extents step f i xs) ≡ Some ms → home_taken ms h (units_of step (i + p)) ≡ Some z
    → (y : List UnitMap) × (after_homes c (placed_extents step f i (slice_set xs p (slice_set (get_or xs p []) j (Some h)))) ≡ Some y)
unfolding after_homes
moved step f i xs p j h c ms z within copy e taken =
    let r = in_place c ms z (b.front ++ a.front) (a.back ++ b.back) old new (ap (after_homes c) (sym (apart old) ∙ sym (split (get_or (get_or xs p []) j None)) ∙ ap (placed_extents step f i) same) ∙ e) one in
    (r.0, ap (after_homes c) (split (Some h) ∙ apart new) ∙ r.1)
  where
    n : ℕ
    n = units_of step (i + p)

    hs : Homes
    hs = get_or xs p []

    b : Between step f i xs p
    b = between step f i xs p within

    a : Around f (i + p) (units_of step (i + p)) (get_or xs p []) j
    a = around f (i + p) (units_of step (i + p)) (get_or xs p []) j copy

    old : List Placed
    old = placed_copies f (i + p) (units_of step (i + p)) (get_or (get_or xs p []) j None ∷ [])

    new : List Placed
    new = placed_copies f (i + p) (units_of step (i + p)) (Some h ∷ [])

    split : (o : Option Home) → placed_extents step f i (slice_set xs p (slice_set (get_or xs p []) j o)) ≡ b.front ++ ((a.front ++ (placed_copies f (i + p) (units_of step (i + p)) (o ∷ []) ++ a.back)) ++ b.back)
    split o = b.with_extent (slice_set (get_or xs p []) j o) ∙ ap (λ (ps : List Placed). b.front ++ (ps ++ b.back)) (a.with_copy o)

    apart : (ps : List Placed) → b.front ++ ((a.front ++ (ps ++ a.back)) ++ b.back) ≡ (b.front ++ a.front) ++ (ps ++ (a.back ++ b.back))
    apart ps = ap (λ (qs : List Placed). b.front ++ qs) (append_assoc a.front (ps ++ a.back) b.back ∙ ap (λ (qs : List Placed). a.front ++ qs) (append_assoc ps a.back b.back)) ∙ sym (append_assoc b.front a.front (ps ++ (a.back ++ b.back)))

    same : slice_set xs p (slice_set (get_or xs p []) j (get_or (get_or xs p []) j None)) ≡ xs
    same = ap (λ (ys : Homes). slice_set xs p ys) (set-get_or (get_or xs p []) j None) ∙ set-get_or xs p []

    one : after_homes ms new ≡ Some z
    one = ap (λ (o : Option (List UnitMap)). option_and_then (λ next. after_homes next []) o) taken
