-- Homes that lie apart in the user units of the entries can be taken one after the other.
use Rattle.std.proofs.Common.{◌≡◌, ◌⊎◌, ℕ, ◌+◌, ◌^◌, ◌<◌, ◌≤◌, Bool, true, false, cond, List, [], ◌∷◌, length, Option, Some, None, refl, sym, ap, subst, ◌∙◌, arith, inl, inr}
use Rattle.std.specs.Prelude.{◌&&◌, ◌||◌, ◌==◌, not, find, flat_map, nat_le, nat_lt, slice_set}
use Rattle.std.specs.List.{list_all, slice_get}
use Rattle.std.proofs.lemmas.Bool.{and_parts, and_from, eqb-true, eq-eqb, leb-true, ltb-true}
use Rattle.asm_group.specs.Group.{Group}
use Rattle.asm_group.specs.Shape.{Shape}
use Rattle.asm_formats.specs.Among.{IsAmong}
use Rattle.asm_formats.specs.Items.{Item}
use Rattle.asm_formats.specs.Regions.{reserved_units}
use Rattle.asm_formats.specs.Status.{Entry, Status, entry_of, is_entry, is_status}
use Rattle.asm_formats.proofs.Among.{all_among}
use Rattle.asm_placement.specs.Placed.{Placed, all_apart, are_apart, fits_entry, is_inside}
use Rattle.asm_images.specs.Describing.{DescribesGroup}
use Rattle.asm_base.proofs.Exact.{some_is}
use Rattle.allocator.specs.UnitMaps.{UnitMap, is_free, unused, with_run}
use Rattle.catalog_tables.specs.Tables.{AreTables, Tables}
use Rattle.catalog_tables.specs.Items.{AreItemsOf}
use Rattle.catalog_tables.specs.Placing.{HasUnits, after_homes, disk_units, entry_units, home_taken, homes_of, is_run_free, unused_maps}
use Rattle.catalog_tables.proofs.HomeUnits.{chunks_are_homes, entry_number, is_in, set_here, set_other, taken_is, unused_at, unused_free}
use Rattle.catalog_tables.proofs.PlacingLaws.{from_all}
use Rattle.group_of.proofs.Runs.{AllPairs, AreWhole, DontOverlap, IsFreeIn, back_other, either_number, unused_whole}
use Rattle.fault_laws.proofs.Apart.{fit}

-- ---- one home is taken

module _ (ms : List UnitMap) (p : Placed) (whole : AreWhole ms) (is : IsFreeIn ms p) where
  abbrev new : UnitMap
  new = with_run is.at p.home.unit p.len true

  abbrev next : List UnitMap
  next = slice_set ms p.home.disk new

  free : is_run_free is.at p.home.unit p.len ≡ true
  free = from_all (is_free is.at) p.home.unit p.len is.free

  taken : home_taken ms p.home p.len ≡ Some next
  taken = rw (is.there, free) refl

  here : slice_get next p.home.disk ≡ Some new
  here = set_here ms p.home.disk is.at new is.there

  still_whole : AreWhole next
  still_whole d m e = elim (either_number d p.home.disk) [
    | inl same ↦
        let one : new ≡ m = some_is new m (sym here ∙ ap (slice_get next) (sym same) ∙ e) in
        subst (λ (x : UnitMap). length x.used ≡ x.units) one (taken_is is.at p.home.unit p.len (whole p.home.disk is.at is.there) free).whole
    | inr apart ↦ whole d m (back_other ms d p.home.disk m new apart e)
  ]

  outside : (q : Placed) → (p.home.unit + p.len ≤ q.home.unit) ⊎ (q.home.unit + q.len ≤ p.home.unit) → (k : ℕ) → q.home.unit ≤ k → k < q.home.unit + q.len → is_in p.home.unit p.len k ≡ false
  outside q apart k low high = by (is_in p.home.unit p.len k) refl where
    by : (b : Bool) → is_in p.home.unit p.len k ≡ b → is_in p.home.unit p.len k ≡ false
    by false e = e
    by true e =
        let x = and_parts (nat_le p.home.unit k) (nat_lt k (p.home.unit + p.len)) e in
        let from = leb-true p.home.unit k x.0 in
        let to = ltb-true k (p.home.unit + p.len) x.1 in
        elim apart [
          | inl before ↦ absurd (omega (arith, before, low, to))
          | inr behind ↦ absurd (omega (arith, behind, high, from))
        ]

  -- the units of a home apart from it stay free
  still_free : (q : Placed) → DontOverlap p q → IsFreeIn ms q → IsFreeIn next q
  still_free q apart other = elim (either_number q.home.disk p.home.disk) [
    | inl same ↦
        let one : other.at ≡ is.at = some_is other.at is.at (sym other.there ∙ ap (slice_get ms) same ∙ is.there) in
        record {
          at = new;
          there = ap (slice_get next) same ∙ here;
          free = λ k low high.
              (taken_is is.at p.home.unit p.len (whole p.home.disk is.at is.there) free).free k
              ∙ and_from (is_free is.at k) (not (is_in p.home.unit p.len k)) (ap (λ (m : UnitMap). is_free m k) (sym one) ∙ other.free k low high) (ap not (outside q (apart (sym same)) k low high));
        }
    | inr elsewhere ↦ record { at = other.at; there = set_other ms q.home.disk p.home.disk other.at new elsewhere other.there; free = other.free }
  ]

-- ---- all of them

pub all_taken : (ps : List Placed) (ms : List UnitMap) → AreWhole ms → ((p : Placed) → IsAmong ps p → IsFreeIn ms p) → AllPairs DontOverlap ps → (last : List UnitMap) × (after_homes ms ps ≡ Some last)
unfolding after_homes AllPairs
all_taken [] ms whole free apart = (ms, refl)
all_taken (p ∷ ps) ms whole free apart =
    let is = free p (inl refl) in
    let rest = all_taken ps (next ms p whole is) (still_whole ms p whole is) (λ q h. still_free ms p whole is q (apart.0 q h) (free q (inr h))) apart.1 in
    (rest.0, rw (taken ms p whole is) rest.1)

-- ---- by the tests

or_either : (a b : Bool) → (a || b) ≡ true → (a ≡ true) ⊎ (b ≡ true)
or_either true b e = inl refl
or_either false b e = inr e

dont_overlap : (p q : Placed) → are_apart p q ≡ true → DontOverlap p q
dont_overlap p q e same =
    let here : (not true || ((nat_le (p.home.unit + p.len) q.home.unit || nat_le (q.home.unit + q.len) p.home.unit) && not ((p.file == q.file) && (p.index == q.index)))) ≡ true =
    rw (eq-eqb p.home.disk q.home.disk same) at e in
    let runs = (and_parts (nat_le (p.home.unit + p.len) q.home.unit || nat_le (q.home.unit + q.len) p.home.unit) (not ((p.file == q.file) && (p.index == q.index))) here).0 in
    elim (or_either (nat_le (p.home.unit + p.len) q.home.unit) (nat_le (q.home.unit + q.len) p.home.unit) runs) [
      | inl l ↦ inl (leb-true (p.home.unit + p.len) q.home.unit l)
      | inr l ↦ inr (leb-true (q.home.unit + q.len) p.home.unit l)
    ]

none_overlap : (ps : List Placed) → all_apart ps ≡ true → AllPairs DontOverlap ps
unfolding AllPairs
none_overlap [] e = tt
none_overlap (p ∷ ps) e =
    let a = and_parts (list_all (are_apart p) ps) (all_apart ps) e in
    (λ q h. dont_overlap p q (all_among (are_apart p) ps q a.0 h), none_overlap ps a.1)

-- the entry that is found is one of them
found_among : (es : List Entry) (d : ℕ) (e : Entry) → find (λ (x : Entry). x.number == d) es ≡ Some e → IsAmong es e × (e.number ≡ d)
found_among [] d e is = absurd cc
found_among (x ∷ es) d e is = by (x.number == d) refl is (found_among es d e) where
  by : (b : Bool) → (x.number == d) ≡ b → cond b (Some x) (find (λ (y : Entry). y.number == d) es) ≡ Some e
      → (find (λ (y : Entry). y.number == d) es ≡ Some e → IsAmong es e × (e.number ≡ d)) → IsAmong (x ∷ es) e × (e.number ≡ d)
  by true at is rest = let same = some_is x e is in (inl (sym same), subst (λ (y : Entry). y.number ≡ d) same (eqb-true x.number d at))
  by false at is rest = let f = rest is in (inr f.0, f.1)

module _ (s : Shape) (es : List Entry) (right : list_all is_entry es ≡ true) where
  in_entry : (p : Placed) (o : Option Entry) → find (λ (x : Entry). x.number == p.home.disk) es ≡ o → fits_entry s p o ≡ true → IsFreeIn (unused_maps s es) p
  in_entry p None at fits = absurd cc
  in_entry p (Some e) at fits =
      let f = found_among es p.home.disk e at in
      let small : p.home.disk < 64 = subst (λ (n : ℕ). n < 64) f.1 (entry_number e (all_among is_entry es e right f.0)) in
      let units : disk_units es p.home.disk ≡ e.units = ap entry_units at in
      let x = and_parts (nat_le (reserved_units s) p.home.unit) (nat_le (p.home.unit + p.len) e.units) fits in
      let low = leb-true (reserved_units s) p.home.unit x.0 in
      let high = leb-true (p.home.unit + p.len) e.units x.1 in
      record {
        at = unused (reserved_units s) (disk_units es p.home.disk);
        there = unused_at s es p.home.disk small;
        free = λ k from to. unused_free (reserved_units s) (disk_units es p.home.disk) k (omega (arith, low, from)) (omega (arith, high, to, units));
      }

  pub free_in : (p : Placed) → is_inside s es p ≡ true → IsFreeIn (unused_maps s es) p
  unfolding entry_of
  free_in p e = in_entry p (find (λ (x : Entry). x.number == p.home.disk) es) refl e

entries_right : (r : Status) → is_status r ≡ true → list_all is_entry r.entries ≡ true
unfolding is_status
entries_right r e =
    let a = and_parts (nat_lt r.id (2 ^ 64)) _ e in
    let b = and_parts (nat_lt r.epoch (2 ^ 64)) _ a.1 in
    let c = and_parts (nat_lt r.turn (2 ^ 64)) _ b.1 in
    let d = and_parts (nat_lt r.births (2 ^ 64)) _ c.1 in
    let f = and_parts (nat_lt r.holders (2 ^ 64)) _ d.1 in
    let g = and_parts (nat_lt r.next_holders (2 ^ 64)) _ f.1 in
    let h = and_parts (nat_lt r.directories (2 ^ 64)) _ g.1 in
    (and_parts (list_all is_entry r.entries) _ h.1).0

module _ (r : Status) (items : List Item) (t : Tables) (g : Group) (a : AreTables t) (is : AreItemsOf t items) (d : DescribesGroup r items g) where
  abbrev all : List Placed
  all = flat_map (homes_of g.shape.step) t.extents

  pub units : is_status r ≡ true → (ms : List UnitMap) × HasUnits g.shape r.entries t ms
  units ok =
      let right = entries_right r ok in
      let f = fit r items t g a is d in
      let last = all_taken all (unused_maps g.shape r.entries) (unused_whole g.shape r.entries)
      (λ p h. free_in g.shape r.entries right p (all_among (is_inside g.shape r.entries) all p f.0 h)) (none_overlap all f.1) in
      (last.0, chunks_are_homes g.shape.step t.extents (unused_maps g.shape r.entries) ∙ last.1)
