-- The homes of the tables lie apart, in the user units of the entries.
use Rattle.std.proofs.Common.{◌≡◌, ◌⊎◌, ℕ, suc, ◌+◌, ◌-◌, ◌*◌, ◌<◌, ◌≤◌, ◌^◌, Bool, true, false, get_or, length, List, [], ◌∷◌, ◌++◌, Option, Some, None, refl, sym, ap, subst, ◌∙◌, arith, inl, inr}
use Rattle.std.specs.Prelude.{◌&&◌, ◌||◌, ◌==◌, not, find, flat_map, nat_le, nat_lt}
use Rattle.std.specs.List.{list_all}
use Rattle.std.specs.Ordering.{nat_cmp, ordering_then}
use Rattle.std.specs.declared.cmp.Ordering.{Ordering}
use Rattle.std.specs.declared.cmp.Ordering.TheVariants.{Less, Equal, Greater}
use Rattle.std.proofs.lemmas.Bool.{and_parts, and_from, eqb-true, eq-eqb, leb-true, ltb-true, le-leb}
use Rattle.asm_group.specs.Shape.{Shape}
use Rattle.asm_formats.specs.Among.{IsAmong}
use Rattle.asm_formats.specs.Items.{Home, Homes, Item, chunk_len, is_homes, is_item}
use Rattle.asm_formats.specs.Regions.{reserved_units}
use Rattle.asm_formats.specs.Status.{Entry, entry_of}
use Rattle.asm_placement.specs.Layout.{units_of}
use Rattle.asm_placement.specs.Placed.{Placed, all_apart, are_apart, fits_entry, is_inside, placed_copies, placed_extents, places_fit}
use Rattle.asm_base.specs.Records.{Ascend}
use Rattle.catalog_laws.specs.extent_map.Extents as extents
use Rattle.catalog_laws.specs.extent_map.Extents.{Chunked}
use Rattle.asm_base.specs.Chunks.{chunk_cmp, is_chunk_before}
use Rattle.catalog_laws.proofs.extent_map.Laws.{chunk_total}
use Rattle.catalog_laws.specs.catalog_tables.Tables.{Tables}
use Rattle.catalog_laws.specs.catalog_tables.Rules.{KeepsRules, are_on_disks, are_on_two, is_on_disks}
use Rattle.catalog_laws.specs.catalog_tables.Items.{AreItemsOf}
use Rattle.catalog_laws.specs.catalog_tables.Placing.{HasUnits, disk_units, entry_units, homes_of, unused_maps}
use Rattle.catalog_laws.proofs.catalog_tables.HomeUnits.{chunks_are_homes, three_true}
use Rattle.catalog_laws.proofs.ItemLists.{items_say}
use Rattle.catalog_laws.proofs.catalog.NumberedEntries.{passes_each}
use Rattle.catalog_laws.proofs.catalog_tables.PlacingLaws.{units_some}
use Rattle.catalog_laws.proofs.catalog_tables.TableItems.{append_among, below, chunks_exact, each_of, tail_up}
use Rattle.catalog_laws.specs.allocator.UnitMaps.{UnitMap, is_free, unused}
use Rattle.group_of.proofs.Runs.{AllPairs, AreLong, AreTaken, DontOverlap, IsFreeIn, all_taken, unused_is, unused_whole}

-- ---- what is placed

-- the copies of extents from i on, below n, of a file
record IsOfFile (f i n : ℕ) (p : Placed) : Type 0 where
  file : p.file ≡ f
  from : i ≤ p.index
  below : p.index < n
  long : 0 < p.len

copy_of : (f i len : ℕ) (hs : Homes) (p : Placed) → 0 < len → IsAmong (placed_copies f i len hs) p → IsOfFile f i (suc i) p
copy_of f i len [] p some h = absurd h
copy_of f i len (None ∷ hs) p some h = copy_of f i len hs p some h
copy_of f i len (Some x ∷ hs) p some (inl e) = record {
  file = ap (λ (q : Placed). q.file) e;
  from = omega (arith, ap (λ (q : Placed). q.index) e);
  below = omega (arith, ap (λ (q : Placed). q.index) e);
  long = omega (arith, ap (λ (q : Placed). q.len) e, some);
}
copy_of f i len (Some x ∷ hs) p some (inr h) = copy_of f i len hs p some h

units_long : (step i : ℕ) → 0 < units_of step i
units_long step i = units_some step i (units_of step i) refl

wider : (f i n j m : ℕ) (p : Placed) → j ≤ i → n ≤ m → IsOfFile f i n p → IsOfFile f j m p
wider f i n j m p low high is = record { file = is.file; from = omega (arith, low, is.from); below = omega (arith, high, is.below); long = is.long }

extent_of : (step f i : ℕ) (homes : List Homes) (p : Placed) → IsAmong (placed_extents step f i homes) p → IsOfFile f i (i + length homes) p
extent_of step f i [] p h = absurd h
extent_of step f i (hs ∷ more) p h = elim (append_among (placed_copies f i (units_of step i) hs) (placed_extents step f (suc i) more) p h) [
  | inl l ↦ wider f i (suc i) i (i + length (hs ∷ more)) p (omega arith) (omega arith) (copy_of f i (units_of step i) hs p (units_long step i) l)
  | inr r ↦ wider f (suc i) (suc i + length more) i (i + length (hs ∷ more)) p (omega arith) (omega arith) (extent_of step f (suc i) more p r)
]

long_chunk : (x : Chunked) → is_item (extents.item_of_chunk x) ≡ true → length x.1 ≡ 256
unfolding is_item
long_chunk x e =
    let a = and_parts (nat_lt x.0.0 (2 ^ 32)) (nat_lt (x.0.1 + 1) (2 ^ 32) && ((length x.1 == chunk_len) && list_all is_homes x.1)) e in
    let b = and_parts (nat_lt (x.0.1 + 1) (2 ^ 32)) ((length x.1 == chunk_len) && list_all is_homes x.1) a.1 in
    eqb-true (length x.1) 256 (and_parts (length x.1 == chunk_len) (list_all is_homes x.1) b.1).0

right_homes : (x : Chunked) → is_item (extents.item_of_chunk x) ≡ true → list_all is_homes x.1 ≡ true
unfolding is_item
right_homes x e =
    let a = and_parts (nat_lt x.0.0 (2 ^ 32)) (nat_lt (x.0.1 + 1) (2 ^ 32) && ((length x.1 == chunk_len) && list_all is_homes x.1)) e in
    let b = and_parts (nat_lt (x.0.1 + 1) (2 ^ 32)) ((length x.1 == chunk_len) && list_all is_homes x.1) a.1 in
    (and_parts (length x.1 == chunk_len) (list_all is_homes x.1) b.1).1

-- a copy that the chunks place is of one of them
record IsOfChunk (xs : List Chunked) (p : Placed) : Type 0 where
  chunk : Chunked
  among : IsAmong xs chunk
  is : IsOfFile chunk.0.0 (chunk.0.1 * 256) (chunk.0.1 * 256 + length chunk.1) p

chunk_of : (step : ℕ) (xs : List Chunked) (p : Placed) → IsAmong (flat_map (homes_of step) xs) p → IsOfChunk xs p
chunk_of step [] p h = absurd h
chunk_of step (x ∷ xs) p h = elim (append_among (homes_of step x) (flat_map (homes_of step) xs) p h) [
  | inl l ↦ record { chunk = x; among = inl refl; is = extent_of step x.0.0 (x.0.1 * 256) x.1 p l }
  | inr r ↦ let c = chunk_of step xs p r in record { chunk = c.chunk; among = inr c.among; is = c.is }
]

-- ---- homes of one extent

abbrev pub AreTwo : Placed → Placed → Type 0
AreTwo p q = p.home.disk ≡ q.home.disk → p.file ≡ q.file → p.index ≡ q.index → ⊥

module _ (R : Placed → Placed → Type 0) where
  joined : (ps qs : List Placed) → AllPairs R ps → AllPairs R qs → ((p q : Placed) → IsAmong ps p → IsAmong qs q → R p q) → AllPairs R (ps ++ qs)
  unfolding AllPairs
  joined [] qs a b cross = b
  joined (p ∷ ps) qs a b cross = (
    λ q h. elim (append_among ps qs q h) [
      | inl l ↦ a.0 q l
      | inr r ↦ cross p q (inl refl) r
    ],
    joined ps qs a.1 b (λ x y h g. cross x y (inr h) g),
  )

two_disks : (a b : ℕ) → not (a == b) ≡ true → a ≡ b → ⊥
two_disks a b e same = by (a == b) (eq-eqb a b same) e where
  by : (c : Bool) → c ≡ true → not c ≡ true → ⊥
  by true x y = absurd cc
  by false x y = absurd cc

-- the copies of one extent lie on different disks
module _ (f i len : ℕ) where
  abbrev put : Home → Placed
  put h = record { file = f; index = i; home = h; len = len }

  -- a home and the ones behind it
  first_of : (g : Home) (hs : Homes) → ((h : Home) → IsAmong hs (Some h) → g.disk ≡ h.disk → ⊥) → (q : Placed) → IsAmong (placed_copies f i len hs) q → AreTwo (put g) q
  first_of g [] none q h = absurd h
  first_of g (None ∷ hs) none q h = first_of g hs (λ x m. none x (inr m)) q h
  first_of g (Some x ∷ hs) none q (inl e) = λ same file index. none x (inl refl) (same ∙ ap (λ (p : Placed). p.home.disk) e)
  first_of g (Some x ∷ hs) none q (inr h) = first_of g hs (λ y m. none y (inr m)) q h

  apart_first : (a : Option Home) (hs : Homes) → ((g h : Home) → a ≡ Some g → IsAmong hs (Some h) → g.disk ≡ h.disk → ⊥) → AllPairs AreTwo (placed_copies f i len hs) → AllPairs AreTwo (placed_copies f i len (a ∷ hs))
  unfolding AllPairs
  apart_first None hs none rest = rest
  apart_first (Some g) hs none rest = (first_of g hs (λ h m. none g h refl m), rest)

  no_pair : AllPairs AreTwo []
  unfolding AllPairs
  no_pair = tt

  on_two : (a b : Option Home) (g h : Home) → are_on_two a b ≡ true → a ≡ Some g → Some h ≡ b → g.disk ≡ h.disk → ⊥
  on_two a b g h e is at = two_disks g.disk h.disk (ap (λ (o : Option Home). are_on_two o (Some h)) (sym is) ∙ ap (are_on_two a) at ∙ e)

  three_apart : (hs : Homes) → is_homes hs ≡ true → are_on_disks hs ≡ true → AllPairs AreTwo (placed_copies f i len hs)
  three_apart (a ∷ b ∷ c ∷ []) is e =
      let p = and_parts (are_on_two a b) (are_on_two a c && are_on_two b c) e in
      let q = and_parts (are_on_two a c) (are_on_two b c) p.1 in
      apart_first a (b ∷ c ∷ []) (λ g h at m. elim m [
        | inl x ↦ on_two a b g h p.0 at x
        | inr y ↦ elim y [ inl z ↦ on_two a c g h q.0 at z | inr none ↦ absurd none ]
      ])
      (apart_first b (c ∷ []) (λ g h at m. elim m [ inl z ↦ on_two b c g h q.1 at z | inr none ↦ absurd none ])
      (apart_first c [] (λ g h at m. absurd m) no_pair))
  three_apart [] is e = no_pair
  three_apart (a ∷ []) is e = apart_first a [] (λ g h at m. absurd m) no_pair
  three_apart (a ∷ b ∷ []) is e = absurd cc
  three_apart (a ∷ b ∷ c ∷ d ∷ hs) is e = absurd (omega (arith, eqb-true (length (a ∷ b ∷ c ∷ d ∷ hs)) 3 (and_parts (length (a ∷ b ∷ c ∷ d ∷ hs) == 3) _ is).0))

extents_apart : (step f i : ℕ) (homes : List Homes) → list_all is_homes homes ≡ true → list_all are_on_disks homes ≡ true → AllPairs AreTwo (placed_extents step f i homes)
extents_apart step f i [] is e = no_pair f i 0
extents_apart step f i (hs ∷ more) is e =
    let a = and_parts (is_homes hs) (list_all is_homes more) is in
    let b = and_parts (are_on_disks hs) (list_all are_on_disks more) e in
    joined AreTwo (placed_copies f i (units_of step i) hs) (placed_extents step f (suc i) more) (three_apart f i (units_of step i) hs a.0 b.0) (extents_apart step f (suc i) more a.1 b.1)
    (λ p q h g same file index.
    let x = copy_of f i (units_of step i) hs p (units_long step i) h in
    let y = extent_of step f (suc i) more q g in
    absurd (omega (arith, x.below, y.from, index)))

-- chunks of one file have other numbers
number_less : (m n : ℕ) → nat_cmp m n ≡ Less → m < n
number_less m n e = grind (arith, e)

later_chunk : (x y : Chunked) → chunk_cmp x.0 y.0 ≡ Less → x.0.0 ≡ y.0.0 → x.0.1 < y.0.1
later_chunk x y e same = by (nat_cmp x.0.0 y.0.0) refl e where
  by : (o : Ordering) → nat_cmp x.0.0 y.0.0 ≡ o → ordering_then o (nat_cmp x.0.1 y.0.1) ≡ Less → x.0.1 < y.0.1
  by Less is e = absurd (omega (arith, number_less x.0.0 y.0.0 is, same))
  by Equal is e = grind (arith, e)
  by Greater is e = absurd cc

chunks_apart : (step : ℕ) (xs : List Chunked) → Ascend is_chunk_before xs → ((x : Chunked) → IsAmong xs x → is_item (extents.item_of_chunk x) ≡ true) → ((x : Chunked) → IsAmong xs x → is_on_disks x ≡ true) → AllPairs AreTwo (flat_map (homes_of step) xs)
chunks_apart step [] up items disks = no_pair 0 0 0
chunks_apart step (x ∷ xs) up items disks =
    joined AreTwo (homes_of step x) (flat_map (homes_of step) xs)
    (extents_apart step x.0.0 (x.0.1 * 256) x.1 (right_homes x (items x (inl refl))) (disks x (inl refl)))
    (chunks_apart step xs (tail_up chunk_cmp chunk_total chunks_exact x xs up) (λ y h. items y (inr h)) (λ y h. disks y (inr h)))
    (λ p q h g same file index.
    let a = extent_of step x.0.0 (x.0.1 * 256) x.1 p h in
    let c = chunk_of step xs q g in
    let less = later_chunk x c.chunk (below chunk_cmp chunk_total chunks_exact x xs c.chunk up c.among) (sym a.file ∙ file ∙ c.is.file) in
    absurd (omega (arith, less, a.below, c.is.from, index, long_chunk x (items x (inl refl)))))

-- ---- both

apart_by : (p q : Placed) → DontOverlap p q → AreTwo p q → are_apart p q ≡ true
apart_by p q free two = by (p.home.disk == q.home.disk) refl where
  extent : p.home.disk ≡ q.home.disk → (b : Bool) → (p.file == q.file) ≡ b → (c : Bool) → (p.index == q.index) ≡ c → not (b && c) ≡ true
  extent same true e true g = absurd (two same (eqb-true p.file q.file e) (eqb-true p.index q.index g))
  extent same true e false g = refl
  extent same false e c g = refl

  run : (p.home.unit + p.len ≤ q.home.unit) ⊎ (q.home.unit + q.len ≤ p.home.unit) → (nat_le (p.home.unit + p.len) q.home.unit || nat_le (q.home.unit + q.len) p.home.unit) ≡ true
  run (inl le) = rw (le-leb (p.home.unit + p.len) q.home.unit le) refl
  run (inr le) = rw (le-leb (q.home.unit + q.len) p.home.unit le) (either (nat_le (p.home.unit + p.len) q.home.unit)) where
    either : (b : Bool) → (b || true) ≡ true
    either true = refl
    either false = refl

  by : (b : Bool) → (p.home.disk == q.home.disk) ≡ b → are_apart p q ≡ true
  by false e = rw e refl
  by true e =
      let same = eqb-true p.home.disk q.home.disk e in
      rw e (and_from (nat_le (p.home.unit + p.len) q.home.unit || nat_le (q.home.unit + q.len) p.home.unit) (not ((p.file == q.file) && (p.index == q.index))) (run (free same)) (extent same (p.file == q.file) refl (p.index == q.index) refl))

all_by : (ps : List Placed) (p : Placed) → ((q : Placed) → IsAmong ps q → are_apart p q ≡ true) → list_all (are_apart p) ps ≡ true
all_by [] p each = refl
all_by (q ∷ ps) p each = and_from (are_apart p q) (list_all (are_apart p) ps) (each q (inl refl)) (all_by ps p (λ x h. each x (inr h)))

all_are_apart : (ps : List Placed) → AllPairs DontOverlap ps → AllPairs AreTwo ps → all_apart ps ≡ true
unfolding AllPairs
all_are_apart [] a b = refl
all_are_apart (p ∷ ps) a b = and_from (list_all (are_apart p) ps) (all_apart ps) (all_by ps p (λ q h. apart_by p q (a.0 q h) (b.0 q h))) (all_are_apart ps a.1 b.1)

-- ---- in the entries

fits_units : (s : Shape) (p : Placed) (o : Option Entry) → 0 < p.len → reserved_units s ≤ p.home.unit → p.home.unit + p.len ≤ entry_units o → fits_entry s p o ≡ true
fits_units s p None long low high = absurd (omega (arith, long, high))
fits_units s p (Some e) long low high = and_from (nat_le (reserved_units s) p.home.unit) (nat_le (p.home.unit + p.len) e.units) (le-leb (reserved_units s) p.home.unit low) (le-leb (p.home.unit + p.len) e.units high)

inside : (s : Shape) (es : List Entry) (p : Placed) → 0 < p.len → IsFreeIn (unused_maps s es) p → is_inside s es p ≡ true
unfolding entry_of
inside s es p long is = fits_units s p (find (λ (e : Entry). e.number == p.home.disk) es) long low high where
  free : (k : ℕ) → p.home.unit ≤ k → k < p.home.unit + p.len → is_free (unused (reserved_units s) (disk_units es p.home.disk)) k ≡ true
  free k from to = ap (λ (m : UnitMap). is_free m k) (unused_is s es p.home.disk is.at is.there) ∙ is.free k from to

  parts : (k : ℕ) → p.home.unit ≤ k → k < p.home.unit + p.len → (reserved_units s ≤ k) × (k < disk_units es p.home.disk)
  parts k from to =
      let m = unused (reserved_units s) (disk_units es p.home.disk) in
      let t = three_true (nat_le m.first k) (nat_lt k m.units) (not (get_or m.used k true)) (free k from to) in
      (leb-true m.first k t.0, ltb-true k m.units t.1)

  low : reserved_units s ≤ p.home.unit
  low = (parts p.home.unit (omega arith) (omega (arith, long))).0

  high : p.home.unit + p.len ≤ disk_units es p.home.disk
  high = omega (arith, long, (parts (p.home.unit + p.len - 1) (omega (arith, long)) (omega (arith, long))).1)

all_inside : (s : Shape) (es : List Entry) (ps : List Placed) → ((p : Placed) → IsAmong ps p → is_inside s es p ≡ true) → list_all (is_inside s es) ps ≡ true
all_inside s es [] each = refl
all_inside s es (p ∷ ps) each = and_from (is_inside s es p) (list_all (is_inside s es) ps) (each p (inl refl)) (all_inside s es ps (λ q h. each q (inr h)))

pub places : (s : Shape) (es : List Entry) (t : Tables) (items : List Item) (ms : List UnitMap) → KeepsRules s t → AreItemsOf t items → HasUnits s es t ms → places_fit s es items ≡ true
places s es t items ms k is units =
    let all = flat_map (homes_of s.step) t.extents in
    subst (λ (ps : List Placed). (list_all (is_inside s es) ps && all_apart ps) ≡ true) (sym ((items_say t items k.tables is).placed s.step))
    (and_from (list_all (is_inside s es) all) (all_apart all) (all_inside s es all (λ p h. inside s es p (long p h) (taken.free p h))) (all_are_apart all taken.apart two))
  where
    long : AreLong (flat_map (homes_of s.step) t.extents)
    long p h = (chunk_of s.step t.extents p h).is.long

    taken : AreTaken (unused_maps s es) (flat_map (homes_of s.step) t.extents)
    taken = all_taken (flat_map (homes_of s.step) t.extents) (unused_maps s es) ms (unused_whole s es) long (sym (chunks_are_homes s.step t.extents (unused_maps s es)) ∙ units)

    two : AllPairs AreTwo (flat_map (homes_of s.step) t.extents)
    two = chunks_apart s.step t.extents k.tables.extents.0.0 (λ x h. each_of (λ (y : Chunked). is_item (extents.item_of_chunk y) ≡ true) t.extents x k.tables.extents.0.1 h) (passes_each is_on_disks t.extents k.apart)
