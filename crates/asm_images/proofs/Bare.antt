-- Entries that are the same but for modes and partners.
use Rattle.std.proofs.Common.{◌≡◌, inl, inr, ℕ, Bool, true, false, cond, ◌&&◌, not, List, [], ◌∷◌, map, drop, refl, sym, ap, ◌∙◌, Option, Some, None, ◌==◌}
use Rattle.std.specs.Prelude.{find}
use Rattle.std.specs.List.{list_all, flat_map}
use Rattle.std.specs.Option.{option_map}
use Rattle.std.proofs.lemmas.Option.{same_Some, none-some}
use Rattle.asm_group.specs.Shape.{Shape}
use Rattle.asm_formats.specs.Sets.{elements}
use Rattle.asm_formats.specs.Status.{Entry, entry_of}
use Rattle.asm_formats.specs.Following.{holder_of, disks_of, sets_of}
use Rattle.asm_formats.specs.Items.{Item}
use Rattle.asm_formats.specs.Among.{IsAmong}
use Rattle.asm_placement.specs.Placed.{Placed, placed, fits_entry, is_inside, all_apart, places_fit}
use Rattle.asm_placement.specs.Work.{is_regular}
use Rattle.asm_images.specs.Describing.{has_info_in_items}
use Rattle.asm_images.specs.RecordLaws.{bare}

abbrev pub Bare : Type 0
Bare = ℕ × ℕ × ℕ × Bool

bare_entry : (entries : List Entry) (d : ℕ) → option_map bare (entry_of entries d) ≡ find (λ (b : Bare). b.0 == d) (map bare entries)
unfolding entry_of
bare_entry [] d = refl
bare_entry (e ∷ entries) d = go (e.number == d) (bare_entry entries d)
  where
    go : (b : Bool) → option_map bare (entry_of entries d) ≡ find (λ (b : Bare). b.0 == d) (map bare entries)
        → option_map bare (cond b (Some e) (entry_of entries d)) ≡ cond b (Some (bare e)) (find (λ (b : Bare). b.0 == d) (map bare entries))
    go true same = refl
    go false same = same

pub same_entry : (xs ys : List Entry) (d : ℕ) → map bare xs ≡ map bare ys → option_map bare (entry_of xs d) ≡ option_map bare (entry_of ys d)
same_entry xs ys d e = bare_entry xs d ∙ ap (λ (l : List Bare). find (λ (b : Bare). b.0 == d) l) e ∙ sym (bare_entry ys d)

-- ---- holders

same_holder : (d : ℕ) (o p : Option Entry) → option_map bare o ≡ option_map bare p → holder_of d o ≡ holder_of d p
same_holder d None None e = refl
same_holder d None (Some y) e = absurd cc
same_holder d (Some x) None e = absurd cc
same_holder d (Some x) (Some y) e = ap (λ (b : Bare). (d, b.1) ∷ []) (same_Some (bare x) (bare y) e)

same_disks : (xs ys : List Entry) (set : ℕ) → map bare xs ≡ map bare ys → disks_of xs set ≡ disks_of ys set
unfolding disks_of
same_disks xs ys set e = λ i. flat_map (λ (d : ℕ). same_holder d (entry_of xs d) (entry_of ys d) (same_entry xs ys d e) i) (elements set)

pub same_sets : (xs ys : List Entry) (holders next : ℕ) → map bare xs ≡ map bare ys → sets_of xs holders next ≡ sets_of ys holders next
unfolding sets_of
same_sets xs ys holders next e = λ i. same_disks xs ys holders e i ∷ (cond (next == 0) [] (same_disks xs ys next e i ∷ []))

-- ---- an entry that is there

pub record HasBare (entries : List Entry) (d : ℕ) (e : Entry) : Type 0 where
  pub entry : Entry
  pub is : entry_of entries d ≡ Some entry
  pub same : bare e ≡ bare entry

pub has_bare : (xs ys : List Entry) (d : ℕ) (e : Entry) → map bare xs ≡ map bare ys → entry_of xs d ≡ Some e → HasBare ys d e
has_bare xs ys d e same is = go (entry_of ys d) refl (sym (ap (option_map bare) is) ∙ same_entry xs ys d same)
  where
    go : (o : Option Entry) → entry_of ys d ≡ o → Some (bare e) ≡ option_map bare (entry_of ys d) → HasBare ys d e
    go None there both = absurd (none-some (bare e) (sym (both ∙ ap (option_map bare) there)))
    go (Some y) there both = record { entry = y; is = there; same = same_Some (bare e) (bare y) (both ∙ ap (option_map bare) there) }

-- ---- what the items say of entries

same_fit : (s : Shape) (p : Placed) (o q : Option Entry) → option_map bare o ≡ option_map bare q → fits_entry s p o ≡ fits_entry s p q
same_fit s p None None e = refl
same_fit s p None (Some y) e = absurd cc
same_fit s p (Some x) None e = absurd cc
same_fit s p (Some x) (Some y) e =
    let units : x.units ≡ y.units = ap (λ (b : Bare). b.2) (same_Some (bare x) (bare y) e) in
    ap (λ (n : ℕ). fits_entry s p (Some (record x { units = n }))) units

pub same_regular : (o q : Option Entry) → option_map bare o ≡ option_map bare q → is_regular o ≡ is_regular q
same_regular None None e = refl
same_regular None (Some y) e = absurd cc
same_regular (Some x) None e = absurd cc
same_regular (Some x) (Some y) e = ap (λ (b : Bare). not b.3) (same_Some (bare x) (bare y) e)

all_same : {A : Type 0} (t u : A → Bool) (xs : List A) → ((x : A) → t x ≡ u x) → list_all t xs ≡ list_all u xs
all_same t u [] same = refl
all_same t u (x ∷ xs) same = λ i. same x i && all_same t u xs same i

pub same_places : (xs ys : List Entry) (shape : Shape) (items : List Item) → map bare xs ≡ map bare ys → places_fit shape xs items ≡ places_fit shape ys items
same_places xs ys shape items e = ap (λ (b : Bool). b && all_apart (placed shape.step items))
    (all_same (is_inside shape xs) (is_inside shape ys) (placed shape.step items)
    (λ p. same_fit shape p (entry_of xs p.home.disk) (entry_of ys p.home.disk) (same_entry xs ys p.home.disk e)))

same_info : (items : List Item) (x y : Entry) → bare x ≡ bare y → has_info_in_items items x ≡ has_info_in_items items y
same_info items x y e =
    let number = ap (λ (b : Bare). b.0) e in
    let birth = ap (λ (b : Bare). b.1) e in
    λ i. has_info_in_items items (record x { number = number i; birth = birth i })

first_of : Bare → List Bare → Bare
first_of b [] = b
first_of b (c ∷ cs) = c

pub all_info : (items : List Item) (xs ys : List Entry) → map bare xs ≡ map bare ys → list_all (has_info_in_items items) xs ≡ list_all (has_info_in_items items) ys
unfolding first_of
all_info items [] [] e = refl
all_info items [] (y ∷ ys) e = absurd cc
all_info items (x ∷ xs) [] e = absurd cc
all_info items (x ∷ xs) (y ∷ ys) e =
    let head : bare x ≡ bare y = ap (λ (l : List Bare). first_of (bare x) l) e in
    let tail : map bare xs ≡ map bare ys = ap (λ (l : List Bare). drop 1 l) e in
    λ i. same_info items x y head i && all_info items xs ys tail i

-- an entry of the one list has its birth in the other
pub births_in : (xs ys : List Entry) → map bare xs ≡ map bare ys → (e : Entry) → IsAmong xs e → (f : Entry) × IsAmong ys f × (e.birth ≡ f.birth)
unfolding first_of
births_in [] [] same e h = absurd h
births_in [] (y ∷ ys) same e h = absurd h
births_in (x ∷ xs) [] same e h = absurd cc
births_in (x ∷ xs) (y ∷ ys) same e (inl is) =
    let head : bare x ≡ bare y = ap (λ (l : List Bare). first_of (bare x) l) same in
    (y, inl refl, ap (λ (z : Entry). z.birth) is ∙ ap (λ (b : Bare). b.1) head)
births_in (x ∷ xs) (y ∷ ys) same e (inr h) =
    let f = births_in xs ys (ap (λ (l : List Bare). drop 1 l) same) e h in
    (f.0, inr f.1, f.2)
