-- A record that was tried may come next.
use Rattle.std.proofs.Common.{◌≡◌, ◌≢◌, inl, inr, ⊎_elim, ℕ, suc, ◌<◌, ◌≤◌, Bool, true, false, List, [], ◌∷◌, ◌++◌, length, take, refl, sym, ap, subst, ◌∙◌, Option, Some, None, arith, ◌==◌, ◌||◌, IsTrue}
use Rattle.std.specs.Prelude.{All, flat_map, ◌↔◌}
use Rattle.std.specs.Bool.{OnTrue}
use Rattle.std.specs.List.{list_any}
use Rattle.std.specs.Option.{option_map}
use Rattle.std.proofs.lemmas.Bool.{cases_Bool, cases_lt, cond-false, eqb-true, false≢true, ne_eqb}
use Rattle.std.proofs.lemmas.List.{get_or_past, take_all}
use Rattle.std.proofs.lemmas.Option.{same_Some, none-some}
use Rattle.rebalance.specs.allocator.UnitMaps.{UnitMap}
use Rattle.asm_formats.specs.Following.{Follows, FollowsSets, Holder, disks_of, holder_of, sets, sets_of}
use Rattle.asm_formats.specs.Sets.{elements, has_bit}
use Rattle.asm_formats.specs.Status.{Entry, Status, entry_of, is_status}
use Rattle.asm_formats.specs.Among.{IsAmong}
use Rattle.rebalance.specs.catalog_tables.Placing.{HasUnits}
use Rattle.directory_store.specs.change_directory.declared.copy.DirCopy.{DirCopy}
use Rattle.directory_store.specs.Stores.{has_copy_of_disk}
use Rattle.status_register.specs.declared.member.Member.{Member}
use Rattle.group_engine.specs.Mounts.{HaveBirths, MountedGroup}
use Rattle.group_engine.specs.Statuses.{IsNextOf, NamesCopies}
use Rattle.group_engine.specs.Trying.{HasBirthAt, HasDirectoryCopy, IsRecordOf, birth_in}
use Rattle.group_engine.proofs.Sets.{element_bit, element_small}

-- ---- sets

holder_births : (d : ℕ) (o p : Option Entry) → option_map (λ (e : Entry). e.birth) o ≡ option_map (λ (e : Entry). e.birth) p → holder_of d o ≡ holder_of d p
holder_births d None None e = refl
holder_births d None (Some y) e = absurd cc
holder_births d (Some x) None e = absurd cc
holder_births d (Some x) (Some y) e = ap (λ (b : ℕ). (d, b) ∷ []) (same_Some x.birth y.birth e)

same_flat : (f g : ℕ → List Holder) (xs : List ℕ) → ((d : ℕ) → IsAmong xs d → f d ≡ g d) → flat_map f xs ≡ flat_map g xs
same_flat f g [] same = refl
same_flat f g (x ∷ xs) same = λ i. same x (inl refl) i ++ same_flat f g xs (λ d h. same d (inr h)) i

pub same_births : (one other : List Entry) (set : ℕ) → ((d : ℕ) → d < 64 → has_bit set d ≡ true → birth_in one d ≡ birth_in other d) → disks_of one set ≡ disks_of other set
unfolding disks_of
same_births one other set same = same_flat (λ (d : ℕ). holder_of d (entry_of one d)) (λ (d : ℕ). holder_of d (entry_of other d)) (elements set)
    (λ d h. holder_births d (entry_of one d) (entry_of other d) (same d (element_small set d h) (element_bit set d h)))

-- ---- which record follows

pub follows_one : (v r : Status) → v.next_holders ≡ 0 → disks_of v.entries v.holders ≡ disks_of r.entries r.holders → Follows v r
unfolding sets_of
follows_one v r none same = subst (λ (n : ℕ). FollowsSets (sets_of v.entries v.holders n) (sets r)) (sym none) (sym same)

two_sets : (v : Status) → v.next_holders ≢ 0 → sets v ≡ disks_of v.entries v.holders ∷ disks_of v.entries v.next_holders ∷ []
unfolding sets_of
two_sets v some = ap (λ (l : List (List Holder)). disks_of v.entries v.holders ∷ l)
    (cond-false (v.next_holders == 0) [] (disks_of v.entries v.next_holders ∷ []) (ne_eqb v.next_holders 0 some))

one_set : (r : Status) → r.next_holders ≡ 0 → sets r ≡ disks_of r.entries r.holders ∷ []
unfolding sets_of
one_set r none = subst (λ (n : ℕ). sets_of r.entries r.holders n ≡ disks_of r.entries r.holders ∷ []) (sym none) refl

pub follows_second : (v r : Status) → v.next_holders ≢ 0 → r.next_holders ≡ 0 → disks_of v.entries v.next_holders ≡ disks_of r.entries r.holders → Follows v r
follows_second v r some none same = subst (λ (l : List (List Holder)). FollowsSets l (sets r)) (sym (two_sets v some))
    (inr (one_set r none ∙ ap (λ (l : List Holder). l ∷ []) (sym same)))

pub follows_both : (v r : Status) → v.next_holders ≢ 0 → r.next_holders ≢ 0 → disks_of v.entries v.holders ≡ disks_of r.entries r.holders
    → disks_of v.entries v.next_holders ≡ disks_of r.entries r.next_holders → Follows v r
follows_both v r some too same also = subst (λ (l : List (List Holder)). FollowsSets l (sets r)) (sym (two_sets v some))
    (inl (two_sets r too ∙ (λ i. sym same i ∷ sym also i ∷ [])))

-- ---- births

pub have_births : (r : Status) (members : List (Option Member)) → length members ≡ 64 → ((d : ℕ) → d < 64 → HasBirthAt r.entries members d) → HaveBirths r members
have_births r members all at d x e is entry = ⊎_elim
    (λ lt. at d lt x is e entry)
    (λ le. absurd (none-some x (sym (get_or_past members d None (omega (arith, le, all))) ∙ is)))
    (cases_lt d 64)

-- ---- copies

pub all_among : {A : Type 0} (P : A → Type 0) (xs : List A) → All P xs → (x : A) → IsAmong xs x → P x
all_among P [] all x h = absurd h
all_among P (y ∷ ys) all x (inl e) = subst P (sym e) (all 0 y (omega arith))
all_among P (y ∷ ys) all x (inr h) = all_among P ys (λ k d lt. all (suc k) d (omega (arith, lt))) x h

any_found : {A : Type 0} (test : A → Bool) (xs : List A) → list_any test xs ≡ true → (x : A) × IsAmong xs x × (test x ≡ true)
any_found test [] is = absurd (false≢true is)
any_found test (x ∷ xs) is = ⊎_elim
    (λ yes. (x, inl refl, yes))
    (λ no. let f = any_found test xs (sym (ap (λ (b : Bool). b || list_any test xs) no) ∙ is) in (f.0, inr f.1, f.2))
    (cases_Bool (test x))

pub copy_found : (copies : List DirCopy) (d : ℕ) → has_copy_of_disk d copies ≡ true → HasDirectoryCopy copies d
copy_found copies d is = let f = any_found (λ (c : DirCopy). c.number == d) copies is in (f.0, f.1, eqb-true f.0.number d f.2)

pub all_copies : (copies : List DirCopy) (dirs : ℕ) → ((d : ℕ) → d < 64 → has_bit dirs d ≡ true → has_copy_of_disk d copies ≡ true) → (d : ℕ) → IsAmong (elements dirs) d → HasDirectoryCopy copies d
all_copies copies dirs all d h = copy_found copies d (all d (element_small dirs d h) (element_bit dirs d h))

-- ---- tests

pub on_true_map : {P Q : Type 0} (b : Bool) → OnTrue b P → (P → Q) → OnTrue b Q
on_true_map true p f = f p
on_true_map false p f = tt

pub moved_disks : {a b x y : List Entry} {h k i j : ℕ} → a ≡ x → h ≡ i → b ≡ y → k ≡ j → disks_of a h ≡ disks_of b k → disks_of x i ≡ disks_of y j
moved_disks ax hi by kj same = (λ t. disks_of (sym ax t) (sym hi t)) ∙ same ∙ (λ t. disks_of (by t) (kj t))

pub all_taken : {A : Type 0} (P : A → Type 0) (xs ys : List A) (n : ℕ) → length xs ≤ n → xs ≡ ys → All P (take n xs) → All P ys
all_taken P xs ys n le same all = subst (All P) (take_all n xs le ∙ same) all

pub on_true_of : {P Q : Type 0} (b : Bool) → IsTrue b ↔ P → (P → Q) → OnTrue b Q
on_true_of true is f = f (is.0 refl)
on_true_of false is f = tt

pub next_of : (m : MountedGroup) (next : Status) → IsTrue (is_status next) → IsRecordOf m next → HaveBirths next m.register.members → NamesCopies m next
    → ((us : List UnitMap) × HasUnits m.catalog.shape next.entries m.catalog.tables us) → IsNextOf m next
next_of m next allowed is births copies units = record {
  status = allowed;
  group = is.group;
  alive = is.alive;
  follows = is.follows;
  reached = is.reached;
  births = births;
  copies = copies;
  units = units;
}
