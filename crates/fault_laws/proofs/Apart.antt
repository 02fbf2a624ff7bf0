-- The homes of one extent lie on different disks, where all homes lie apart.
use Rattle.std.proofs.Common.{◌≡◌, ℕ, suc, ◌+◌, ◌*◌, ◌^◌, Bool, true, false, List, [], ◌∷◌, ◌++◌, length, Option, Some, None, refl, sym, ap, subst, ◌∙◌, arith, inl, inr}
use Rattle.std.specs.Prelude.{◌&&◌, ◌||◌, ◌==◌, not, flat_map, nat_le, nat_lt}
use Rattle.std.specs.List.{list_all}
use Rattle.std.proofs.lemmas.Bool.{and_parts, and_from, eqb-true, eq-eqb}
use Rattle.asm_group.specs.Group.{Group}
use Rattle.asm_formats.specs.Among.{IsAmong}
use Rattle.asm_formats.specs.Items.{Home, Homes, Item, chunk_item, chunk_len, is_homes, is_item}
use Rattle.asm_formats.specs.Status.{Status}
use Rattle.asm_formats.proofs.Among.{all_split}
use Rattle.asm_placement.specs.Layout.{units_of}
use Rattle.asm_placement.specs.Placed.{Placed, all_apart, are_apart, is_inside, placed, placed_copies, placed_extents}
use Rattle.asm_images.specs.Describing.{DescribesGroup}
use Rattle.extent_map.specs.Extents as extents
use Rattle.extent_map.specs.Extents.{Chunked}
use Rattle.catalog_tables.specs.Tables.{AreTables, Tables}
use Rattle.catalog_tables.specs.Rules.{are_on_disks, are_on_two, first_wrong, is_on_disks}
use Rattle.catalog_tables.specs.Items.{AreItemsOf}
use Rattle.catalog_tables.specs.Placing.{homes_of}
use Rattle.catalog_tables.proofs.TableItems.{each_of}
use Rattle.catalog_laws.proofs.ItemLists.{items_say}
use Rattle.fault_laws.proofs.Lists.{none_wrong}

-- homes that lie apart do so in each part
pub split : (ps qs : List Placed) → all_apart (ps ++ qs) ≡ true → (all_apart ps ≡ true) × (all_apart qs ≡ true)
split [] qs e = (refl, e)
split (p ∷ ps) qs e =
    let a = and_parts (list_all (are_apart p) (ps ++ qs)) (all_apart (ps ++ qs)) e in
    let b = split ps qs a.1 in
    (and_from (list_all (are_apart p) ps) (all_apart ps) (all_split (are_apart p) ps qs a.0).0 b.0, b.1)

module _ (f i len : ℕ) where
  abbrev put : Home → Placed
  put h = record { file = f; index = i; home = h; len = len }

  two : (g h : Home) → are_apart (put g) (put h) ≡ true → are_on_two (Some g) (Some h) ≡ true
  two g h e = by (g.disk == h.disk) refl e where
    by : (b : Bool) → (g.disk == h.disk) ≡ b → are_apart (put g) (put h) ≡ true → not (g.disk == h.disk) ≡ true
    by false same e = ap not same
    by true same e =
        let here : (not true || ((nat_le (g.unit + len) h.unit || nat_le (h.unit + len) g.unit) && not ((f == f) && (i == i)))) ≡ true = rw same at e in
        let last = (and_parts (nat_le (g.unit + len) h.unit || nat_le (h.unit + len) g.unit) (not ((f == f) && (i == i))) here).1 in
        never (rw (eq-eqb f f refl, eq-eqb i i refl) at last)
      where
        never : false ≡ true → not (g.disk == h.disk) ≡ true
        never e = absurd cc

  -- the first of the copies and one behind it
  first_apart : (g : Home) (hs : Homes) (h : Option Home) → list_all (are_apart (put g)) (placed_copies f i len hs) ≡ true → IsAmong hs h → are_on_two (Some g) h ≡ true
  first_apart g [] h e m = absurd m
  first_apart g (None ∷ hs) h e (inl same) = ap (are_on_two (Some g)) same
  first_apart g (None ∷ hs) h e (inr m) = first_apart g hs h e m
  first_apart g (Some x ∷ hs) h e (inl same) = ap (are_on_two (Some g)) same ∙ two g x (and_parts (are_apart (put g) (put x)) (list_all (are_apart (put g)) (placed_copies f i len hs)) e).0
  first_apart g (Some x ∷ hs) h e (inr m) = first_apart g hs h (and_parts (are_apart (put g) (put x)) (list_all (are_apart (put g)) (placed_copies f i len hs)) e).1 m

  from_first : (a : Option Home) (hs : Homes) → all_apart (placed_copies f i len (a ∷ hs)) ≡ true
      → ((h : Option Home) → IsAmong hs h → are_on_two a h ≡ true) × (all_apart (placed_copies f i len hs) ≡ true)
  from_first None hs e = (λ h m. refl, e)
  from_first (Some g) hs e =
      let a = and_parts (list_all (are_apart (put g)) (placed_copies f i len hs)) (all_apart (placed_copies f i len hs)) e in
      (λ h m. first_apart g hs h a.0 m, a.1)

  three : (hs : Homes) → is_homes hs ≡ true → all_apart (placed_copies f i len hs) ≡ true → are_on_disks hs ≡ true
  three (a ∷ b ∷ c ∷ []) is e =
      let x = from_first a (b ∷ c ∷ []) e in
      let y = from_first b (c ∷ []) x.1 in
      and_from (are_on_two a b) (are_on_two a c && are_on_two b c) (x.0 b (inl refl))
      (and_from (are_on_two a c) (are_on_two b c) (x.0 c (inr (inl refl))) (y.0 c (inl refl)))
  three [] is e = refl
  three (a ∷ []) is e = absurd cc
  three (a ∷ b ∷ []) is e = absurd cc
  three (a ∷ b ∷ c ∷ d ∷ hs) is e = absurd (omega (arith, eqb-true (length (a ∷ b ∷ c ∷ d ∷ hs)) 3 (and_parts (length (a ∷ b ∷ c ∷ d ∷ hs) == 3) _ is).0))

all_on_disks : (step f i : ℕ) (homes : List Homes) → list_all is_homes homes ≡ true → all_apart (placed_extents step f i homes) ≡ true → list_all are_on_disks homes ≡ true
all_on_disks step f i [] is e = refl
all_on_disks step f i (hs ∷ more) is e =
    let a = and_parts (is_homes hs) (list_all is_homes more) is in
    let s = split (placed_copies f i (units_of step i) hs) (placed_extents step f (suc i) more) e in
    and_from (are_on_disks hs) (list_all are_on_disks more) (three f i (units_of step i) hs a.0 s.0) (all_on_disks step f (suc i) more a.1 s.1)

chunk_apart : (step : ℕ) (xs : List Chunked) (x : Chunked) → all_apart (flat_map (homes_of step) xs) ≡ true → IsAmong xs x → all_apart (homes_of step x) ≡ true
chunk_apart step [] x e h = absurd h
chunk_apart step (y ∷ xs) x e (inl same) = subst (λ (z : Chunked). all_apart (homes_of step z) ≡ true) (sym same) (split (homes_of step y) (flat_map (homes_of step) xs) e).0
chunk_apart step (y ∷ xs) x e (inr h) = chunk_apart step xs x (split (homes_of step y) (flat_map (homes_of step) xs) e).1 h

chunk_homes : (f c : ℕ) (homes : List Homes) → is_item (chunk_item f c homes) ≡ true → list_all is_homes homes ≡ true
unfolding is_item
chunk_homes f c homes e =
    let a = and_parts (nat_lt f (2 ^ 32)) (nat_lt (c + 1) (2 ^ 32) && ((length homes == chunk_len) && list_all is_homes homes)) e in
    let b = and_parts (nat_lt (c + 1) (2 ^ 32)) ((length homes == chunk_len) && list_all is_homes homes) a.1 in
    (and_parts (length homes == chunk_len) (list_all is_homes homes) b.1).1

module _ (r : Status) (items : List Item) (t : Tables) (g : Group) (a : AreTables t) (is : AreItemsOf t items) (d : DescribesGroup r items g) where
  pub fit : (list_all (is_inside g.shape r.entries) (flat_map (homes_of g.shape.step) t.extents) ≡ true) × (all_apart (flat_map (homes_of g.shape.step) t.extents) ≡ true)
  fit = subst (λ (ps : List Placed). (list_all (is_inside g.shape r.entries) ps ≡ true) × (all_apart ps ≡ true)) ((items_say t items a is).placed g.shape.step)
      (and_parts (list_all (is_inside g.shape r.entries) (placed g.shape.step items)) (all_apart (placed g.shape.step items)) d.places)

  homes_right : (x : Chunked) → IsAmong t.extents x → list_all is_homes x.1 ≡ true
  homes_right x h = chunk_homes x.0.0 x.0.1 x.1 (each_of (λ (y : Chunked). is_item (extents.item_of_chunk y) ≡ true) t.extents x a.extents.0.1 h)

  pub apart : first_wrong is_on_disks t.extents ≡ None
  apart = none_wrong is_on_disks t.extents (λ x h. all_on_disks g.shape.step x.0.0 (x.0.1 * 256) x.1 (homes_right x h) (chunk_apart g.shape.step t.extents x fit.1 h))
