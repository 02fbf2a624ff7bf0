-- When plans of extents may be asked for, by what a catalog tells.
use Rattle.std.proofs.Common.{◌≡◌, ◌≤◌, ◌<◌, ◌/◌, ◌%◌, ℕ, Bool, true, false, cond, ltb, List, [], ◌∷◌, ◌++◌, get_or, replicate, Option, Some, None, refl, sym, ap, ◌∙◌, arith, inl, inr}
use Rattle.std.specs.Prelude.{◌||◌}
use Rattle.std.specs.List.{slice_get}
use Rattle.std.specs.Option.{is_some, option_and_then, unwrap_or}
use Rattle.std.proofs.lemmas.Bool.{cases_lt, lt-ltb, ltb-true, ne_eqb, true≢false}
use Rattle.std.proofs.lemmas.List.Sums.{prefix_len_passes}
use Rattle.asm_group.specs.Shape.{Shape}
use Rattle.asm_formats.specs.Items.{FileHead, Home, Homes}
use Rattle.asm_base.proofs.Exact.{some_is}
use Rattle.asm_placement.specs.Layout.{units_of}
use Rattle.asm_placement.specs.Placed.{placed_copies}
use Rattle.allocator.specs.UnitMaps.{IsLowestRun, UnitMap, is_free, with_run}
use Rattle.extent_map.specs.Extents.{absent_homes, chunk_at, chunk_or_blank, count_in, extent_at, has_extent, has_home}
use Rattle.file_directory.specs.Files.{head_at, is_file_number}
use Rattle.catalog.specs.ExtentPlans.{MayAppend, MayCut, MayMark, IsUndue, first_new, is_copy_of}
use Rattle.catalog_tables.specs.Placing.{after_homes, home_taken}
use Rattle.asm_placement.specs.Naming.{is_pending}
use Rattle.catalog_tables.specs.Rules.{are_marks_of, are_within_head, homes_at}
use Rattle.catalog_tables.specs.Tables.{Catalogued, Tables}
use Rattle.catalog_tables.proofs.HomeUnits.{Takes, set_other, takes}
use Rattle.catalog_tables.proofs.PlacingLaws.{from_all}

-- ---- extents that are told

-- an extent that is told has its chunk and these homes
record IsTold (t : Tables) (f i : ℕ) (homes : Homes) : Type 0 where
  pub chunk : is_some (chunk_at t.extents (f, i / 256)) ≡ true
  pub homes_are : homes_at t f i ≡ homes

told : (t : Tables) (f i : ℕ) (homes : Homes) → Some homes ≡ extent_at t.extents f i → IsTold t f i homes
told t f i homes e = by (chunk_at t.extents (f, i / 256)) refl (sym e) where
  inside : (xs : List Homes) → chunk_at t.extents (f, i / 256) ≡ Some xs → (b : Bool) → cond b (Some (get_or xs (i % 256) [])) None ≡ Some homes → IsTold t f i homes
  inside xs at true e = record {
    chunk = ap is_some at;
    homes_are = ap (λ (o : Option (List Homes)). get_or (unwrap_or o []) (i % 256) []) at ∙ some_is (get_or xs (i % 256) []) homes e;
  }
  inside xs at false e = absurd cc

  by : (o : Option (List Homes)) → chunk_at t.extents (f, i / 256) ≡ o → option_and_then (λ xs. cond (has_home (get_or xs (i % 256) [])) (Some (get_or xs (i % 256) [])) None) o ≡ Some homes → IsTold t f i homes
  by None at e = absurd cc
  by (Some xs) at e = inside xs at (has_home (get_or xs (i % 256) [])) e

-- one that isn't told isn't there
untold : (t : Tables) (f i : ℕ) → None ≡ extent_at t.extents f i → has_extent t.extents f i ≡ false
untold t f i e = by (chunk_at t.extents (f, i / 256)) (sym e) where
  inside : (xs : List Homes) (b : Bool) → has_home (get_or xs (i % 256) []) ≡ b → cond b (Some (get_or xs (i % 256) [])) None ≡ None → has_home (get_or xs (i % 256) []) ≡ false
  inside xs true is e = absurd cc
  inside xs false is e = is

  by : (o : Option (List Homes)) → option_and_then (λ xs. cond (has_home (get_or xs (i % 256) [])) (Some (get_or xs (i % 256) [])) None) o ≡ None → has_home (get_or (unwrap_or o []) (i % 256) []) ≡ false
  by None e = refl
  by (Some xs) e = inside xs (has_home (get_or xs (i % 256) [])) refl e

pub may_mark : (t : Tables) (f i set : ℕ) (homes : Homes) → Some homes ≡ extent_at t.extents f i → set < 8 → are_marks_of (set, homes) ≡ true → MayMark t f i set
may_mark t f i set homes e few copies =
    let is = told t f i homes e in
    record { chunk = is.chunk; few = few; copies = ap (λ (hs : Homes). are_marks_of (set, hs)) is.homes_are ∙ copies }

-- ---- homes of free units

pub run_taken : (ms : List UnitMap) (d at len : ℕ) (m : UnitMap) → slice_get ms d ≡ Some m → IsLowestRun m len at → is_some (home_taken ms (record { disk = d; unit = at }) len) ≡ true
run_taken ms d at len m there lowest = rw (there, from_all (is_free m) at len lowest.free) refl

-- ---- a first chunk that gets an extent

-- the extent is one of the first 256
few : (xs : List Homes) → has_home (get_or xs 255 []) ≡ false → count_in xs < 256
few xs none = elim (cases_lt 255 (count_in xs)) [
  | inl more ↦ absurd (true≢false (sym (prefix_len_passes has_home xs 255 [] more) ∙ none))
  | inr less ↦ omega (arith, less)
]

room : (t : Tables) (f : ℕ) → None ≡ extent_at t.extents f 255 → count_in (chunk_or_blank t.extents (f, 0)) < 256
room t f e = by (chunk_at t.extents (f, 0)) (untold t f 255 e) where
  by : (o : Option (List Homes)) → has_home (get_or (unwrap_or o []) 255 []) ≡ false → count_in (unwrap_or o (replicate 256 absent_homes)) < 256
  by None none = omega arith
  by (Some xs) none = few xs none

one_unit : (step i : ℕ) → i < step → units_of step i ≡ 1
unfolding units_of
one_unit step i less = rw (lt-ltb i step less) refl

-- free units on two disks are free one after the other
two_taken : (ms : List UnitMap) (f i : ℕ) (a b : Home) → (b.disk ≡ a.disk → ⊥) → is_some (home_taken ms a 1) ≡ true → is_some (home_taken ms b 1) ≡ true
    → is_some (after_homes ms (placed_copies f i 1 (Some a ∷ Some b ∷ None ∷ []) ++ [])) ≡ true
unfolding after_homes
two_taken ms f i a b apart = by (home_taken ms a 1) (home_taken ms b 1) refl refl where
  last : (next other : List UnitMap) → Takes ms next a 1 → Takes ms other b 1 → is_some (option_and_then (λ (n : List UnitMap). Some n) (home_taken next b 1)) ≡ true
  last next other first second =
      rw (first.put, set_other ms b.disk a.disk second.map_before (with_run first.map_before a.unit 1 true) apart second.there, second.free) refl

  by : (o p : Option (List UnitMap)) → home_taken ms a 1 ≡ o → home_taken ms b 1 ≡ p → is_some o ≡ true → is_some p ≡ true
      → is_some (option_and_then (λ (next : List UnitMap). option_and_then (λ (n : List UnitMap). Some n) (home_taken next b 1)) o) ≡ true
  by None p first second there other = absurd cc
  by (Some next) None first second there other = absurd cc
  by (Some next) (Some others) first second there other = last next others (takes ms next a 1 first) (takes ms others b 1 second)

within : (head : Option FileHead) (a b : Home) → is_copy_of head 1 ≡ true → are_within_head head ((Some a ∷ Some b ∷ None ∷ []) ∷ []) ≡ true
within None a b two = refl
within (Some head) a b two = rw (lt-ltb 0 head.copies (omega (arith, ltb-true 1 head.copies two)), two, or_true (ltb 2 head.copies)) refl where
  or_true : (x : Bool) → (x || true) ≡ true
  or_true true = refl
  or_true false = refl

pub may_append : (c : Catalogued) (f : ℕ) (a b : Home) → (a.disk ≡ b.disk → ⊥) → 256 ≤ c.shape.step → is_copy_of (head_at c.tables.files f) 1 ≡ true → (is_file_number c.tables.files f || is_pending f c.tables.operations.pending) ≡ true
    → None ≡ extent_at c.tables.extents f 255 → is_some (home_taken c.units a 1) ≡ true → is_some (home_taken c.units b 1) ≡ true → (m : ℕ) → m < 8 → are_marks_of (m, Some a ∷ Some b ∷ None ∷ []) ≡ true → MayAppend c f 0 ((Some a ∷ Some b ∷ None ∷ []) ∷ []) (m ∷ [])
may_append c f a b apart step two owned none first second m few marks =
    let less = room c.tables f none in
    record {
      number = omega arith;
      room = omega (arith, less);
      behind = refl;
      there = refl;
      owned = owned;
      copies = within (head_at c.tables.files f) a b two;
      apart = rw (ne_eqb a.disk b.disk apart) refl;
      free = rw (one_unit c.shape.step (first_new c.tables f 0) (omega (arith, less, step))) (two_taken c.units f (first_new c.tables f 0) a b (λ e. apart (sym e)) first second);
      marked = refl;
      three = rw (lt-ltb m 8 few) refl;
      stale = rw marks refl;
    }

-- ---- a first chunk that is cut

pub may_cut : (s : Shape) (t : Tables) (f kept : ℕ) → kept ≤ 256 → head_at t.files f ≡ None → is_some (extent_at t.extents f 0) ≡ true → None ≡ extent_at t.extents f 256 → MayCut s t f 0 kept
may_cut s t f kept few none there last =
    record {
      there = by (chunk_at t.extents (f, 0)) there;
      few = few;
      last = untold t f 256 last;
      undue = undue (head_at t.files f) none;
    } where
      by : (o : Option (List Homes)) → is_some (option_and_then (λ xs. cond (has_home (get_or xs 0 [])) (Some (get_or xs 0 [])) None) o) ≡ true → is_some o ≡ true
      by None e = absurd cc
      by (Some xs) e = refl

      undue : (head : Option FileHead) → head ≡ None → IsUndue s head 0 kept
      undue None e = tt
      undue (Some head) e = absurd cc
