-- Units in which no current copy lies.
use Rattle.std.proofs.Common.{◌≡◌, inl, inr, ⊎_elim, ℕ, zero, suc, ◌+◌, ◌*◌, ◌/◌, ◌%◌, ◌<◌, ◌≤◌, Bool, true, false, cond, eqb, ltb, List, [], ◌∷◌, length, get_or, refl, sym, ap, ◌∙◌, Option, Some, None, arith, IsTrue, mul-le-mul_right}
use Rattle.std.specs.Prelude.{◌&&◌, ◌||◌, flat_map, not, nat_lt}
use Rattle.std.specs.List.{list_any}
use Rattle.std.specs.Option.{is_some, unwrap_or}
use Rattle.std.proofs.lemmas.Bool.{and_parts, cases_lt, eq-eqb, false≢true, leb-true, lt-ltb, true≢false}
use Rattle.std.proofs.lemmas.List.{length-replicate}
use Rattle.std.proofs.lemmas.List.FromFn.{length-map-range_with_len}
use Rattle.std.proofs.lemmas.Option.{none-some, same_Some, slice_get_within}
use Rattle.asm_group.specs.Shape.{Shape, is_shape}
use Rattle.asm_formats.specs.Among.{IsAmong}
use Rattle.asm_formats.specs.Items.{Home, Homes}
use Rattle.asm_formats.specs.Regions.{reserved_units}
use Rattle.asm_formats.specs.Sets.{has_bit}
use Rattle.asm_formats.specs.Status.{Entry}
use Rattle.asm_base.proofs.Exact.{some_is}
use Rattle.asm_base.specs.Chunks.{chunk_cmp}
use Rattle.asm_placement.specs.Layout.{units_of}
use Rattle.asm_placement.specs.Placed.{Placed, placed_copies, placed_extents}
use Rattle.asm_placement.specs.Space.{is_free_run}
use Rattle.asm_placement.proofs.Membership.{among_left, among_right, flat_map_among}
use Rattle.asm_images.specs.Spans.{Span}
use Rattle.asm_images.specs.WriteLaws.{AreApart}
use Rattle.asm_images.proofs.UserBytes.{reserved_cover, shape_au}
use Rattle.asm_images.proofs.UserWrites.{homes_are_apart}
use Rattle.allocator.specs.UnitMaps.{UnitMap, is_free, unused}
use Rattle.extent_map.specs.Extents.{chunk_at}
use Rattle.extent_map.proofs.Laws.{chunk_total}
use Rattle.catalog.specs.ExtentPlans.{home_at}
use Rattle.catalog.proofs.UnitEdits.{as_many}
use Rattle.catalog_laws.proofs.HavingItems.{have_items}
use Rattle.catalog_tables.specs.Placing.{HasUnits, after_homes, disk_units, home_taken, homes_of, unused_maps}
use Rattle.catalog_tables.specs.Rules.{are_on_disks, are_on_two, homes_at, marks_of}
use Rattle.catalog_tables.specs.Tables.{Tables}
use Rattle.catalog_tables.proofs.HomeUnits.{behind, chunks_are_homes, takes, unused_at}
use Rattle.catalog_tables.proofs.PlacingLaws.{run_is}
use Rattle.catalog_tables.proofs.TableItems.{chunks_exact, found_is}
use Rattle.group_of.proofs.Extents.{home_by}
use Rattle.flight_laws.specs.Elsewhere.{IsUserHome}
use Rattle.flight_laws.specs.Spare.{FreeUnitsAreSpare, NoHomeIn, NoHomeNoneKnown, StaleCopyIsSpare}
use Rattle.flight_laws.proofs.Lookups.{copy_low}

-- ---- the homes of tables, each with its units

-- the run of a home of extent i is one of these
record IsPlaced (ps : List Placed) (step i : ℕ) (h : Home) : Type 0 where
  place : Placed
  among : IsAmong ps place
  home : place.home ≡ h
  len : place.len ≡ units_of step i

in_copies : (step f i copy : ℕ) (hs : Homes) (h : Home) → get_or hs copy None ≡ Some h → IsPlaced (placed_copies f i (units_of step i) hs) step i h
in_copies step f i copy [] h e = absurd (none-some h e)
in_copies step f i zero (None ∷ hs) h e = absurd (none-some h e)
in_copies step f i zero (Some x ∷ hs) h e = record { place = record { file = f; index = i; home = x; len = units_of step i }; among = inl refl; home = same_Some x h e; len = refl }
in_copies step f i (suc copy) (None ∷ hs) h e = in_copies step f i copy hs h e
in_copies step f i (suc copy) (Some x ∷ hs) h e = let p = in_copies step f i copy hs h e in record { place = p.place; among = inr p.among; home = p.home; len = p.len }

in_extents : (step f i j k copy : ℕ) (all : List Homes) (h : Home) → j ≡ i + k → get_or (get_or all k []) copy None ≡ Some h → IsPlaced (placed_extents step f i all) step j h
in_extents step f i j k copy [] h at e = absurd (none-some h e)
in_extents step f i j zero copy (hs ∷ all) h at e =
    let same : i ≡ j = omega (arith, at) in
    let p = in_copies step f i copy hs h e in
    record { place = p.place; among = among_left (placed_copies f i (units_of step i) hs) (placed_extents step f (suc i) all) p.place p.among; home = p.home; len = p.len ∙ ap (units_of step) same }
in_extents step f i j (suc k) copy (hs ∷ all) h at e =
    let p = in_extents step f (suc i) j k copy all h (omega (arith, at)) e in
    record { place = p.place; among = among_right (placed_copies f i (units_of step i) hs) (placed_extents step f (suc i) all) p.place p.among; home = p.home; len = p.len }

in_tables : (step : ℕ) (t : Tables) (f i copy : ℕ) (h : Home) → home_at t f i copy ≡ Some h → IsPlaced (flat_map (homes_of step) t.extents) step i h
in_tables step t f i copy h e = by (chunk_at t.extents (f, i / 256)) refl where
  by : (o : Option (List Homes)) → chunk_at t.extents (f, i / 256) ≡ o → IsPlaced (flat_map (homes_of step) t.extents) step i h
  by None none = absurd (none-some h (ap (λ (o : Option (List Homes)). get_or (get_or (unwrap_or o []) (i % 256) []) copy None) (sym none) ∙ e))
  by (Some w) is =
      let p = in_extents step f (i / 256 * 256) i (i % 256) copy w h (omega arith) (ap (λ (o : Option (List Homes)). get_or (get_or (unwrap_or o []) (i % 256) []) copy None) (sym is) ∙ e) in
      record {
        place = p.place;
        among = flat_map_among (homes_of step) t.extents ((f, i / 256), w) p.place (found_is chunk_cmp chunk_total chunks_exact (f, i / 256) t.extents w is) p.among;
        home = p.home;
        len = p.len;
      }

-- ---- free units

none_any : {A : Type 0} (test : A → Bool) (xs : List A) (x : A) → not (list_any test xs) ≡ true → IsAmong xs x → test x ≡ false
none_any test [] x none among = absurd among
none_any test (y ∷ xs) x none (inl same) = ap test same ∙ first (test y) (list_any test xs) none where
  first : (a b : Bool) → not (a || b) ≡ true → a ≡ false
  first true b e = absurd cc
  first false b e = refl
none_any test (y ∷ xs) x none (inr later) = none_any test xs x (rest (test y) (list_any test xs) none) later where
  rest : (a b : Bool) → not (a || b) ≡ true → not b ≡ true
  rest true b e = absurd cc
  rest false b e = e

-- a run of units none of which a home's units meet is apart from these
units_apart : (unit len low count : ℕ) → 0 < len → 0 < count → ((k : ℕ) → unit ≤ k → k < unit + len → low < k + 1 → k < low + count → ⊥) → AreApart unit len low count
units_apart unit len low count some more unmet = elim (cases_lt unit low) [
  | inl before ↦ elim (cases_lt low (unit + len)) [
    | inl inside ↦ absurd (unmet low (omega (arith, before)) inside (omega arith) (omega (arith, more)))
    | inr behind ↦ inl (omega (arith, behind))
  ]
  | inr past ↦ elim (cases_lt unit (low + count)) [
    | inl inside ↦ absurd (unmet unit (omega arith) (omega (arith, some)) (omega (arith, past)) inside)
    | inr behind ↦ inr (omega (arith, behind))
  ]
]

units_some : (step i : ℕ) → 0 < units_of step i
unfolding units_of
units_some step i = by (nat_lt i step) (nat_lt i (2 * step)) where
  by : (a b : Bool) → 0 < cond a 1 (cond b 4 16)
  by true b = omega arith
  by false true = omega arith
  by false false = omega arith

some_home : (ms : List UnitMap) (h : Home) (len : ℕ) → is_some (home_taken ms h len) ≡ true → (next : List UnitMap) × (home_taken ms h len ≡ Some next)
some_home ms h len there = by (home_taken ms h len) refl there where
  by : (o : Option (List UnitMap)) → home_taken ms h len ≡ o → is_some o ≡ true → (next : List UnitMap) × (home_taken ms h len ≡ Some next)
  by None e there = absurd cc
  by (Some next) e there = (next, e)

module _ (s : Shape) (entries : List Entry) (t : Tables) (ms : List UnitMap) (h : Home) (len : ℕ) (ok : IsTrue (is_shape s)) (has : HasUnits s entries t ms) (some : 0 < len)
    (there : is_some (home_taken ms h len) ≡ true) where
  abbrev homes : List Placed
  homes = flat_map (homes_of s.step) t.extents

  after : after_homes (unused_maps s entries) homes ≡ Some ms
  after = sym (chunks_are_homes s.step t.extents (unused_maps s entries)) ∙ has

  long : length ms ≡ 64
  long = as_many (unused_maps s entries) ms homes after ∙ length-map-range_with_len (λ (d : ℕ). unused (reserved_units s) (disk_units entries d)) 0 64

  -- each unit of the run is a user unit of the disk, and no home meets it
  unit_is : (k : ℕ) → h.unit ≤ k → k < h.unit + len → (is_free (unused (reserved_units s) (disk_units entries h.disk)) k ≡ true) × (is_free_run homes h.disk 1 k ≡ true)
  unit_is k low high =
      let next = some_home ms h len there in
      let taken = takes ms next.0 h len next.1 in
      let small : h.disk < 64 = omega (arith, slice_get_within ms h.disk taken.map_before taken.there, long) in
      let b = behind homes (unused_maps s entries) ms h.disk (unused (reserved_units s) (disk_units entries h.disk)) (length-replicate (disk_units entries h.disk) false) (unused_at s entries h.disk small) after in
      let same : b.new ≡ taken.map_before = some_is b.new taken.map_before (sym b.there ∙ taken.there) in
      and_parts (is_free (unused (reserved_units s) (disk_units entries h.disk)) k) (is_free_run homes h.disk 1 k)
      (sym (b.is.free k) ∙ ap (λ (m : UnitMap). is_free m k) same ∙ run_is taken.map_before h.unit len taken.free k low high)

  user_home : IsUserHome s h
  user_home =
      let first = unit_is h.unit (omega arith) (omega (arith, some)) in
      let reserved : reserved_units s ≤ h.unit = leb-true (reserved_units s) h.unit (and_parts _ _ (and_parts _ _ first.0).0).0 in
      omega (arith, reserved_cover s (shape_au s ok), mul-le-mul_right s.au reserved)

  no_home : NoHomeIn s.step t h.disk h.unit len
  no_home f i copy k at disk =
      let p = in_tables s.step t f i copy k at in
      let same : p.place.home.unit ≡ k.unit = ap (λ (x : Home). x.unit) p.home in
      units_apart h.unit len k.unit (units_of s.step i) some (units_some s.step i) (λ unit low high below above.
      let unmet = none_any (λ (q : Placed). (eqb q.home.disk h.disk) && nat_lt q.home.unit (unit + 1) && nat_lt unit (q.home.unit + q.len)) homes p.place (unit_is unit low high).1 p.among in
      let on : eqb p.place.home.disk h.disk ≡ true = eq-eqb p.place.home.disk h.disk (ap (λ (x : Home). x.disk) p.home ∙ disk) in
      let first : ltb p.place.home.unit (unit + 1) ≡ true = lt-ltb p.place.home.unit (unit + 1) (omega (arith, same, below)) in
      let second : ltb unit (p.place.home.unit + p.place.len) ≡ true = lt-ltb unit (p.place.home.unit + p.place.len) (omega (arith, same, p.len, above)) in
      let met : ((eqb p.place.home.disk h.disk) && nat_lt p.place.home.unit (unit + 1) && nat_lt unit (p.place.home.unit + p.place.len)) ≡ true = rw (on, first, second) refl in
      true≢false (sym met ∙ unmet))

pub free_units_are_spare : FreeUnitsAreSpare
free_units_are_spare = λ s entries t ms h len ok are has some there. (user_home s entries t ms h len ok has some there, no_home s entries t ms h len ok has some there)

pub no_home_none_known : NoHomeNoneKnown
no_home_none_known = λ t g d unit len none f i copy h has disk. inl (none f i copy h has.0 disk)

-- ---- a copy that is marked stale

-- two copies of an extent that are on one disk are one
one_copy : (hs : Homes) (a b : ℕ) (g h : Home) → are_on_disks hs ≡ true → get_or hs a None ≡ Some g → get_or hs b None ≡ Some h → g.disk ≡ h.disk → a < 3 → b < 3 → a ≡ b
one_copy hs a b g h on at_a at_b disks low_a low_b = by a b at_a at_b low_a low_b where
  first : (are_on_two (get_or hs 0 None) (get_or hs 1 None) ≡ true) × ((are_on_two (get_or hs 0 None) (get_or hs 2 None) && are_on_two (get_or hs 1 None) (get_or hs 2 None)) ≡ true)
  first = and_parts (are_on_two (get_or hs 0 None) (get_or hs 1 None)) (are_on_two (get_or hs 0 None) (get_or hs 2 None) && are_on_two (get_or hs 1 None) (get_or hs 2 None)) on

  second : (are_on_two (get_or hs 0 None) (get_or hs 2 None) ≡ true) × (are_on_two (get_or hs 1 None) (get_or hs 2 None) ≡ true)
  second = and_parts (are_on_two (get_or hs 0 None) (get_or hs 2 None)) (are_on_two (get_or hs 1 None) (get_or hs 2 None)) first.1

  differ : (x y : Home) → are_on_two (Some x) (Some y) ≡ true → x.disk ≡ y.disk → ⊥
  differ x y two same = false≢true (sym (ap not (eq-eqb x.disk y.disk same)) ∙ two)

  apart : (m n : ℕ) (x y : Home) → are_on_two (get_or hs m None) (get_or hs n None) ≡ true → get_or hs m None ≡ Some x → get_or hs n None ≡ Some y → x.disk ≡ y.disk → ⊥
  apart m n x y two at_m at_n same = differ x y (ap (λ (o : Option Home). are_on_two o (Some y)) (sym at_m) ∙ ap (λ (o : Option Home). are_on_two (get_or hs m None) o) (sym at_n) ∙ two) same

  by : (a b : ℕ) → get_or hs a None ≡ Some g → get_or hs b None ≡ Some h → a < 3 → b < 3 → a ≡ b
  by zero zero p q la lb = refl
  by zero (suc zero) p q la lb = absurd (apart 0 1 g h first.0 p q disks)
  by zero (suc (suc zero)) p q la lb = absurd (apart 0 2 g h second.0 p q disks)
  by (suc zero) zero p q la lb = absurd (apart 0 1 h g first.0 q p (sym disks))
  by (suc zero) (suc zero) p q la lb = refl
  by (suc zero) (suc (suc zero)) p q la lb = absurd (apart 1 2 g h second.1 p q disks)
  by (suc (suc zero)) zero p q la lb = absurd (apart 0 2 h g second.0 q p (sym disks))
  by (suc (suc zero)) (suc zero) p q la lb = absurd (apart 1 2 h g second.1 q p (sym disks))
  by (suc (suc zero)) (suc (suc zero)) p q la lb = refl
  by (suc (suc (suc a))) b p q la lb = absurd (omega (arith, la))
  by a (suc (suc (suc b))) p q la lb = absurd (omega (arith, lb))

pub stale_copy_is_spare : StaleCopyIsSpare
stale_copy_is_spare = λ r t g f i copy h are have on at stale a j c k has disk.
    let items = have_items t are in
    let x : Span = record { file = f; index = i; from = 0; len = 0 } in
    let own = homes_are_apart g.shape r.entries items.0 x copy h (have items.0 items.1).places (home_by t items.0 are items.1 f i copy ∙ at) in
    ⊎_elim
    (λ (same : (a ≡ f) × (j ≡ i) × (k ≡ h)).
    let here : home_at t f i c ≡ Some k = ap (λ (y : ℕ). home_at t y i c) (sym same.0) ∙ ap (λ (y : ℕ). home_at t a y c) (sym same.1) ∙ has.0 in
    let one : c ≡ copy = one_copy (homes_at t f i) c copy k h on here at disk (copy_low t f i c k are here) (copy_low t f i copy h are at) in
    let fresh : has_bit (marks_of t f i) copy ≡ false =
    ap (λ (y : ℕ). has_bit (marks_of t f i) y) (sym one) ∙ ap (λ (y : ℕ). has_bit (marks_of t y i) c) (sym same.0) ∙ ap (λ (y : ℕ). has_bit (marks_of t a y) c) (sym same.1) ∙ has.1 in
    absurd (true≢false (sym stale ∙ fresh)))
    (λ apart. inl apart)
    (own a j c k (home_by t items.0 are items.1 a j c ∙ has.0) disk)
