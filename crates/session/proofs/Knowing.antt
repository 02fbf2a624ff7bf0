-- What the session knows of the groups that are mounted, each by its tables.
use Rattle.std.proofs.Common.{◌≡◌, ◌≢◌, ◌⊎◌, ⊎_elim, inl, inr, ℕ, Bool, true, false, List, [], ◌∷◌, ◌++◌, length, map, Option, Some, None, is_some, refl, sym, ◌∙◌, ap, subst, arith, ◌==◌, if◌then◌else◌}
use Rattle.std.specs.Prelude.{unwrap_or}
use Rattle.std.specs.FinMap as maps
use Rattle.std.specs.Ordering.{nat_cmp}
use Rattle.std.specs.Cmp.Lexicographic.{nat_list_eq_equiv}
use Rattle.std.proofs.lemmas.Bool.{cases_eq, eq-eqb, false≢true, ne_eqb}
use Rattle.asm_group.specs.Group.{Group}
use Rattle.asm_group.specs.Names.{Bytes, ByNumber, folded, is_same_name}
use Rattle.asm_formats.specs.Among.{IsAmong}
use Rattle.asm_world.specs.World.{SessionEntry, World, entry_among, groups_of, is_mounted, mounted_entry, without_entry}
use Rattle.group_contents.proofs.catalog_laws.HavingItems.{have_items}
use Rattle.group_contents.specs.group_engine.Mounts.{IsWhole, MountedGroup, Represents}
use Rattle.group_contents.specs.group_of.Describing.{IsDescribed}
use Rattle.group_contents.specs.group_of.Groups.{cells_of, group_of}
use Rattle.group_contents.proofs.group_of.Describes.{described_has_cells}
use Rattle.group_contents.proofs.group_of.Leading.{described_is_of_catalog}
use Rattle.session_claims.specs.Claims.{IsPaired}
use Rattle.session_claims.specs.Laws.{ReplacesGroups}
use Rattle.session.specs.Sessions.{AreToldBy, IsToldBy, without_groups}

-- ---- entries with their groups

nil_cons : {A : Type 0} (x : A) (xs : List A) → [] ≡ x ∷ xs → ⊥
nil_cons x xs e = absurd cc

pub paired_among : (es : List SessionEntry) (ms : List MountedGroup) (e : SessionEntry) (m : MountedGroup) → IsPaired es ms e m → IsAmong es e
paired_among [] ms e m pair = absurd pair
paired_among (x ∷ es) [] e m pair = absurd pair
paired_among (x ∷ es) (y ∷ ms) e m pair = ⊎_elim (λ here. inl here.0) (λ later. inr (paired_among es ms e m later)) pair

-- where one was added last
pub paired_last : (es : List SessionEntry) (ms : List MountedGroup) (x : SessionEntry) (y : MountedGroup) (e : SessionEntry) (m : MountedGroup) → length ms ≡ length es → IsPaired (es ++ x ∷ []) (ms ++ y ∷ []) e m
    → IsPaired es ms e m ⊎ ((e ≡ x) × (m ≡ y))
paired_last [] [] x y e m same pair = ⊎_elim (λ here. inr here) (λ none. absurd none) pair
paired_last [] (b ∷ ms) x y e m same pair = absurd (omega (arith, same))
paired_last (a ∷ es) [] x y e m same pair = absurd (omega (arith, same))
paired_last (a ∷ es) (b ∷ ms) x y e m same pair = ⊎_elim
    (λ here. inl (inl here))
    (λ later. ⊎_elim (λ old. inl (inr old)) (λ new. inr new) (paired_last es ms x y e m (omega (arith, same)) later))
    pair

none_paired : (es : List SessionEntry) (e : SessionEntry) (m : MountedGroup) → IsPaired es [] e m → ⊥
none_paired [] e m pair = pair
none_paired (x ∷ es) e m pair = pair

paired-by : (x : SessionEntry) (y : MountedGroup) (es others : List SessionEntry) (ms rest : List MountedGroup) (t : Bool) (e : SessionEntry) (m : MountedGroup) → (IsPaired others rest e m → IsPaired es ms e m)
    → IsPaired (if t then others else x ∷ others) (if t then rest else y ∷ rest) e m → IsPaired (x ∷ es) (y ∷ ms) e m
paired-by x y es others ms rest true e m was pair = inr (was pair)
paired-by x y es others ms rest false e m was pair = ⊎_elim (λ here. inl here) (λ later. inr (was later)) pair

-- where those of a name left
pub paired_left : (es : List SessionEntry) (ms : List MountedGroup) (name : Bytes) (e : SessionEntry) (m : MountedGroup) → IsPaired (without_entry es name) (without_groups es ms name) e m → IsPaired es ms e m
paired_left [] ms name e m pair = absurd pair
paired_left (x ∷ es) [] name e m pair = absurd (none_paired (without_entry (x ∷ es) name) e m pair)
paired_left (x ∷ es) (y ∷ ms) name e m pair =
    paired-by x y es (without_entry es name) ms (without_groups es ms name) (is_same_name x.name name) e m (λ later. paired_left es ms name e m later) pair

length-by : (x : SessionEntry) (y : MountedGroup) (others : List SessionEntry) (rest : List MountedGroup) (t : Bool) → length rest ≡ length others → length (if t then rest else y ∷ rest) ≡ length (if t then others else x ∷ others)
length-by x y others rest true same = same
length-by x y others rest false same = omega (arith, same)

pub left_length : (es : List SessionEntry) (ms : List MountedGroup) (name : Bytes) → length ms ≡ length es → length (without_groups es ms name) ≡ length (without_entry es name)
left_length [] [] name same = refl
left_length [] (y ∷ ms) name same = absurd (omega (arith, same))
left_length (x ∷ es) [] name same = absurd (omega (arith, same))
left_length (x ∷ es) (y ∷ ms) name same =
    length-by x y (without_entry es name) (without_groups es ms name) (is_same_name x.name name) (left_length es ms name (omega (arith, same)))

stays-by : (x : SessionEntry) (y : MountedGroup) (es : List SessionEntry) (ms : List MountedGroup) (name : Bytes) (t : Bool) → is_same_name x.name name ≡ t → (is_some (entry_among es name) ≡ false → without_groups es ms name ≡ ms)
    → is_some (entry_among (x ∷ es) name) ≡ false → without_groups (x ∷ es) (y ∷ ms) name ≡ y ∷ ms
stays-by x y es ms name true is rest none = absurd (false≢true (sym none ∙ rw is refl))
stays-by x y es ms name false is rest none =
    let none' : is_some (entry_among es name) ≡ false = rw is at none in
    rw is (ap (λ (l : List MountedGroup). y ∷ l) (rest none'))

-- where none has the name, none leaves
pub groups_without_none : (es : List SessionEntry) (ms : List MountedGroup) (name : Bytes) → length ms ≡ length es → is_some (entry_among es name) ≡ false → without_groups es ms name ≡ ms
groups_without_none [] [] name same none = refl
groups_without_none [] (y ∷ ms) name same none = absurd (omega (arith, same))
groups_without_none (x ∷ es) [] name same none = absurd (omega (arith, same))
groups_without_none (x ∷ es) (y ∷ ms) name same none = stays-by x y es ms name (is_same_name x.name name) refl (groups_without_none es ms name (omega (arith, same))) none

other-by : (x : SessionEntry) (es : List SessionEntry) (name : Bytes) (e : SessionEntry) (t : Bool) → is_same_name x.name name ≡ t → (is_some (entry_among es name) ≡ false → IsAmong es e → is_same_name e.name name ≡ false)
    → is_some (entry_among (x ∷ es) name) ≡ false → IsAmong (x ∷ es) e → is_same_name e.name name ≡ false
other-by x es name e true is rest none among = absurd (false≢true (sym none ∙ rw is refl))
other-by x es name e false is rest none among =
    let none' : is_some (entry_among es name) ≡ false = rw is at none in
    ⊎_elim (λ (here : e ≡ x). ap (λ (y : SessionEntry). is_same_name y.name name) here ∙ is) (λ later. rest none' later) among

-- no entry has a name that isn't there
pub other_name : (es : List SessionEntry) (name : Bytes) (e : SessionEntry) → is_some (entry_among es name) ≡ false → IsAmong es e → e.name ≢ name
other_name es name e none among same =
    false≢true (sym (differs es none among) ∙ ap (λ (n : Bytes). is_same_name n name) same ∙ nat_list_eq_equiv.refl (folded name))
  where
    differs : (xs : List SessionEntry) → is_some (entry_among xs name) ≡ false → IsAmong xs e → is_same_name e.name name ≡ false
    differs [] gone at = absurd at
    differs (x ∷ xs) gone at = other-by x xs name e (is_same_name x.name name) refl (differs xs) gone at

-- ---- what is told

-- in a world without groups nothing is
pub none_told : (w : World) → w.groups ≡ maps.empty → (groups : List MountedGroup) → AreToldBy w groups
none_told w empty groups e m g pair is only named =
    let none : groups_of w e.id ≡ [] = ap (λ (b : ByNumber (List Group)). unwrap_or (maps.get b e.id) []) empty ∙ ap (λ (o : Option (List Group)). unwrap_or o []) (maps.get-empty nat_cmp e.id) in
    absurd (nil_cons g [] (sym none ∙ only))

-- where no group is mounted
pub first_told : (w : World) → w.session ≡ [] → (groups : List MountedGroup) → AreToldBy w groups
first_told w none groups e m g pair is only named = absurd (subst (λ (l : List SessionEntry). IsPaired l groups e m) none pair)

-- tables that represent a group are those of it
pub told_by : (m : MountedGroup) (g : Group) → IsWhole m → Represents m g → IsToldBy m g
told_by m g whole represents =
    let d : IsDescribed m.register.value m.catalog g = record { tables = whole.are_tables; units = whole.units; shape = represents.shape; describes = represents.describes } in
    let items = have_items m.catalog.tables whole.are_tables in
    record {
      cells = cells_of g;
      has = described_has_cells m.register.value items.0 m.catalog.tables g whole.are_tables items.1 (represents.describes items.0 items.1);
      is = described_is_of_catalog m.register.value m.catalog g d ∙ ap (λ (n : Bytes). group_of n m.catalog.shape m.catalog.tables (cells_of g)) represents.name;
    }

-- a group that left
pub left_told : (w : World) (groups : List MountedGroup) (name : Bytes) → AreToldBy w groups → AreToldBy (record w { session = without_entry w.session name }) (without_groups w.session groups name)
left_told w groups name told e m g pair is only named = told e m g (paired_left w.session groups name e m pair) is only named

pub cons_same : {A : Type 0} (x y : A) → x ∷ [] ≡ y ∷ [] → x ≡ y
cons_same x y e = cc

-- A new group under an id, of a name that wasn't there.
module _ (w w' : World) (id : ℕ) (name : Bytes) (g : Group) (groups : List MountedGroup) (has : g.name ≡ name) (absent : is_some (entry_among w.session name) ≡ false) (replaces : ReplacesGroups w id (g ∷ []) w') (told : AreToldBy w groups) where
  -- those that were there
  still_told : (e : SessionEntry) (m : MountedGroup) (h : Group) → IsPaired w.session groups e m → is_mounted e ≡ true → groups_of w' e.id ≡ h ∷ [] → h.name ≡ e.name → IsToldBy m h
  still_told e m h pair is only named = ⊎_elim
      (λ (here : e.id ≡ id).
      let list : groups_of w' e.id ≡ g ∷ [] = replaces e.id ∙ ap (λ (b : Bool). if b then g ∷ [] else groups_of w e.id) (eq-eqb e.id id here) in
      let same : g ≡ h = cons_same g h (sym list ∙ only) in
      absurd (other_name w.session name e absent (paired_among w.session groups e m pair) (sym named ∙ ap (λ (k : Group). k.name) (sym same) ∙ has)))
      (λ (other : e.id ≢ id).
      let list : groups_of w' e.id ≡ groups_of w e.id = replaces e.id ∙ ap (λ (b : Bool). if b then g ∷ [] else groups_of w e.id) (ne_eqb e.id id other) in
      told e m h pair is (sym list ∙ only) named)
      (cases_eq e.id id)

  pub unentered_told : w'.session ≡ w.session → AreToldBy w' groups
  unentered_told session e m h pair is only named = still_told e m h (subst (λ (l : List SessionEntry). IsPaired l groups e m) session pair) is only named

  pub entered_told : (m : MountedGroup) → length groups ≡ length w.session → w'.session ≡ w.session ++ mounted_entry name id ∷ [] → IsToldBy m g → AreToldBy w' (groups ++ m ∷ [])
  entered_told m same session is_told e x h pair is only named = ⊎_elim
      (λ old. still_told e x h old is only named)
      (λ (new : (e ≡ mounted_entry name id) × (x ≡ m)).
      let list : groups_of w' id ≡ g ∷ [] = replaces id ∙ ap (λ (b : Bool). if b then g ∷ [] else groups_of w id) (eq-eqb id id refl) in
      let at : groups_of w' e.id ≡ groups_of w' id = ap (λ (y : SessionEntry). groups_of w' y.id) new.0 in
      let alike : g ≡ h = cons_same g h (sym list ∙ sym at ∙ only) in
      subst (λ (k : Group). IsToldBy x k) alike (subst (λ (y : MountedGroup). IsToldBy y g) (sym new.1) is_told))
      (paired_last w.session groups (mounted_entry name id) m e x same (subst (λ (l : List SessionEntry). IsPaired l (groups ++ m ∷ []) e x) session pair))
