-- A directory copy whose content changes keeps what the image stands for.
use Rattle.std.proofs.Common.{◌≡◌, ◌⊎◌, inl, inr, ⊎_elim, ℕ, ◌<◌, ◌≤◌, Bool, true, false, cond, not, ltb, ◌&&◌, List, [], ◌∷◌, ◌++◌, map, filter, refl, sym, ap, subst, ◌∙◌, Option, Some, None, arith, IsTrue, ◌==◌}
use Rattle.std.specs.Prelude.{find}
use Rattle.std.specs.List.{flat_map, list_all}
use Rattle.std.specs.Option.{is_some, option_map}
use Rattle.std.proofs.lemmas.Bool.{cond_both, cond-true, cond-false, cases_eq, cases_lt, eq-eqb, ne_eqb, eqb-true, and_parts, both_ways, not-true, false_from_ne_true, ltb-true, ltb-false, le-ltb, lt-ltb}
use Rattle.std.proofs.lemmas.Option.{same_Some, none-some}
use Rattle.asm_formats.specs.Among.{IsAmong}
use Rattle.asm_formats.specs.Regions.{units_in}
use Rattle.asm_formats.specs.Sets.{elements}
use Rattle.asm_formats.specs.Header.{Header}
use Rattle.asm_formats.specs.Claim.{Claim}
use Rattle.asm_formats.specs.Status.{Status, Entry, entry_of}
use Rattle.asm_formats.specs.Metadata.{Metadata, metadata}
use Rattle.asm_formats.specs.Content.{Content}
use Rattle.asm_images.specs.Directories.{newer, newest, copies, copy_on, member_contents, to_list, directories, IsNamed}
use Rattle.asm_images.specs.Members.{ImageBytes, Member, within, is_disk, claims_of_group, AreDistinct, all_members, written, disk_of}
use Rattle.asm_images.specs.Register.{Fits, current_records}
use Rattle.asm_images.specs.Stands.{Describes, IsDiskOf}
use Rattle.asm_group.specs.Group.{Group}
use Rattle.asm_images.specs.Sound.{IsCovered, SoundBy}
use Rattle.asm_images.specs.Steps.{ChangesContent, IsKnown, Outcome, keeps_old_content, loses_content, gains_content, IsCopyCommitted}
use Rattle.asm_images.proofs.Membership.{among_filter, among_within}
use Rattle.asm_images.proofs.Replacing.{Keeps, replaced, replaced_keeps, members_replaced, within_map, find_map, found_among, statuses_map}
use Rattle.asm_images.proofs.Membership.{map_among}
use Rattle.asm_images.proofs.Claiming.{fits_raised, at_change, cover_replaced, described_map}

-- ---- the newest of contents, with one more among them

-- xs is ys with k at some places, each of which has N
data Inserted (N : Type 0) (k : Content) : List Content → List Content → Type 0 where
  none_left : Inserted N k [] []
  both : (x : Content) {xs ys : List Content} → Inserted N k xs ys → Inserted N k (x ∷ xs) (x ∷ ys)
  more : N → {xs ys : List Content} → Inserted N k xs ys → Inserted N k (k ∷ xs) ys

-- what newer gives is one of the two, and the other isn't greater
newer_cases : (x y c : Content) → newer x (Some y) ≡ Some c → ((y ≡ c) × (x.commit < y.commit)) ⊎ ((x ≡ c) × (y.commit ≤ x.commit))
newer_cases x y c e = cond_both (ltb x.commit y.commit) (Some y) (Some x) (λ (o : Option Content). o ≡ Some c → ((y ≡ c) × (x.commit < y.commit)) ⊎ ((x ≡ c) × (y.commit ≤ x.commit)))
    (λ yes is. inl (same_Some y c is, ltb-true x.commit y.commit yes)) (λ no is. inr (same_Some x c is, ltb-false x.commit y.commit no)) e

newer_some : (x y : Content) → y.commit ≤ x.commit → newer x (Some y) ≡ Some x
newer_some x y le = cond-false (ltb x.commit y.commit) (Some y) (Some x) (le-ltb x.commit y.commit le)

newer_other : (x y : Content) → x.commit < y.commit → newer x (Some y) ≡ Some y
newer_other x y lt = cond-true (ltb x.commit y.commit) (Some y) (Some x) (lt-ltb x.commit y.commit lt)

-- there is a newest of a list that isn't empty, and none of the others is greater
has_newest : (x : Content) (xs : List Content) → (c : Content) × (newest (x ∷ xs) ≡ Some c) × (x.commit ≤ c.commit)
has_newest x [] = (x, refl, omega arith)
has_newest x (y ∷ xs) =
    let n = has_newest y xs in
    ⊎_elim
    (λ lt. (n.0, ap (λ (o : Option Content). newer x o) n.1 ∙ newer_other x n.0 lt, omega arith))
    (λ le. (x, ap (λ (o : Option Content). newer x o) n.1 ∙ newer_some x n.0 le, omega arith))
    (cases_lt x.commit n.0.commit)

newest_most : (xs : List Content) (y x : Content) → newest xs ≡ Some y → IsAmong xs x → x.commit ≤ y.commit
newest_most [] y x e h = absurd h
newest_most (z ∷ xs) y x e h =
    let later : (w : Content) → newest xs ≡ Some w → IsAmong xs x → x.commit ≤ w.commit = λ w is k. newest_most xs w x is k in
    go (newest xs) refl later h
  where
    go : (o : Option Content) → newest xs ≡ o → ((w : Content) → newest xs ≡ Some w → IsAmong xs x → x.commit ≤ w.commit) → IsAmong (z ∷ xs) x → x.commit ≤ y.commit
    go None none later (inl here) = omega (arith, ap (λ (c : Content). c.commit) here, ap (λ (c : Content). c.commit) (same_Some z y (subst (λ (o : Option Content). newer z o ≡ Some y) none e)))
    go None none later (inr there) = absurd (empty xs none there)
      where
        empty : (l : List Content) → newest l ≡ None → IsAmong l x → ⊥
        empty [] is k = k
        empty (a ∷ l) is k = let n = has_newest a l in absurd (cc (n.1, is))
    go (Some w) some later (inl here) = ⊎_elim
        (λ other. omega (arith, ap (λ (c : Content). c.commit) here, ap (λ (c : Content). c.commit) other.0, other.1))
        (λ one. omega (arith, ap (λ (c : Content). c.commit) here, ap (λ (c : Content). c.commit) one.0))
        (newer_cases z w y (subst (λ (o : Option Content). newer z o ≡ Some y) some e))
    go (Some w) some later (inr there) = ⊎_elim
        (λ other. omega (arith, ap (λ (c : Content). c.commit) other.0, later w some there))
        (λ one. omega (arith, ap (λ (c : Content). c.commit) one.0, one.1, later w some there))
        (newer_cases z w y (subst (λ (o : Option Content). newer z o ≡ Some y) some e))

pub newest_among : (xs : List Content) (y : Content) → newest xs ≡ Some y → IsAmong xs y
newest_among [] y e = absurd cc
newest_among (z ∷ xs) y e =
    let later : (w : Content) → newest xs ≡ Some w → IsAmong xs w = λ w is. newest_among xs w is in
    go (newest xs) refl later
  where
    go : (o : Option Content) → newest xs ≡ o → ((w : Content) → newest xs ≡ Some w → IsAmong xs w) → IsAmong (z ∷ xs) y
    go None none later = inl (sym (same_Some z y (subst (λ (o : Option Content). newer z o ≡ Some y) none e)))
    go (Some w) some later = ⊎_elim
        (λ other. inr (subst (λ (c : Content). IsAmong xs c) other.0 (later w some))) (λ one. inl (sym one.0))
        (newer_cases z w y (subst (λ (o : Option Content). newer z o ≡ Some y) some e))

inserted_among : {N : Type 0} {k : Content} {xs ys : List Content} → Inserted N k xs ys → (z : Content) → IsAmong ys z → IsAmong xs z
inserted_among none_left z h = h
inserted_among (both x ins) z (inl e) = inl e
inserted_among (both x ins) z (inr h) = inr (inserted_among ins z h)
inserted_among (more n ins) z h = inr (inserted_among ins z h)

among_newest : (xs : List Content) (z : Content) → IsAmong xs z → (y : Content) × (newest xs ≡ Some y) × (z.commit ≤ y.commit)
among_newest [] z h = absurd h
among_newest (x ∷ xs) z h = let n = has_newest x xs in (n.0, n.1, newest_most (x ∷ xs) n.0 z n.1 h)

newest_below : {N : Type 0} {k : Content} {xs ys : List Content} → Inserted N k xs ys → (z : Content) → newest ys ≡ Some z → (y : Content) × (newest xs ≡ Some y) × (z.commit ≤ y.commit)
newest_below {N} {k} {xs} {ys} ins z e = among_newest xs z (inserted_among ins z (newest_among ys z e))

step_same : (N : Type 0) (k x c : Content) (xs ys : List Content) (o p : Option Content) → newest xs ≡ o → newest ys ≡ p
    → ((z : Content) → newest ys ≡ Some z → (y : Content) × (newest xs ≡ Some y) × (z.commit ≤ y.commit))
    → ((d : Content) → newest xs ≡ Some d → (N × (d ≡ k)) ⊎ (newest ys ≡ Some d))
    → newer x o ≡ Some c → (N × (c ≡ k)) ⊎ (newer x p ≡ Some c)
step_same N k x c xs ys None None is_o is_p below before e = inr e
step_same N k x c xs ys None (Some z) is_o is_p below before e = let b = below z is_p in absurd (cc (b.1, is_o))
step_same N k x c xs ys (Some y) p is_o is_p below before e = ⊎_elim
    (λ other. ⊎_elim
    (λ new. inl (new.0, sym other.0 ∙ new.1))
    (λ is. inr (ap (λ (q : Option Content). newer x q) (sym is_p ∙ is) ∙ newer_other x y other.1 ∙ ap Some other.0))
    (before y is_o))
    (λ one. inr (kept_one p is_p one.0 one.1))
    (newer_cases x y c e)
  where
    kept_one : (p : Option Content) → newest ys ≡ p → x ≡ c → y.commit ≤ x.commit → newer x p ≡ Some c
    kept_one None is_p same le = ap Some same
    kept_one (Some z) is_p same le =
        let b = below z is_p in
        let one : b.0 ≡ y = same_Some b.0 y (sym b.1 ∙ is_o) in
        newer_some x z (omega (arith, b.2, ap (λ (d : Content). d.commit) one, le)) ∙ ap Some same

step_extra : (N : Type 0) (k c : Content) (xs ys : List Content) (o : Option Content) → newest xs ≡ o → N
    → ((d : Content) → newest xs ≡ Some d → (N × (d ≡ k)) ⊎ (newest ys ≡ Some d)) → newer k o ≡ Some c → (N × (c ≡ k)) ⊎ (newest ys ≡ Some c)
step_extra N k c xs ys None is n before e = inl (n, sym (same_Some k c e))
step_extra N k c xs ys (Some y) is n before e = ⊎_elim
    (λ other. subst (λ (d : Content). (N × (d ≡ k)) ⊎ (newest ys ≡ Some d)) other.0 (before y is)) (λ one. inl (n, sym one.0)) (newer_cases k y c e)

-- the newest is the inserted one, or the newest of the others
newest_inserted : {N : Type 0} {k : Content} {xs ys : List Content} → Inserted N k xs ys → (c : Content) → newest xs ≡ Some c → (N × (c ≡ k)) ⊎ (newest ys ≡ Some c)
newest_inserted none_left c e = inr e
newest_inserted {N} {k} (both x {xs = xs} {ys = ys} ins) c e = step_same N k x c xs ys (newest xs) (newest ys) refl refl (newest_below ins) (newest_inserted ins) e
newest_inserted {N} {k} (more n {xs = xs} {ys = ys} ins) c e = step_extra N k c xs ys (newest xs) refl n (newest_inserted ins) e

-- ---- what members without one slot hold

pub filter_and : {A : Type 0} (p q : A → Bool) (xs : List A) → filter (λ x. p x && q x) xs ≡ filter q (filter p xs)
filter_and p q [] = refl
filter_and {A} p q (x ∷ xs) = go (p x) (filter_and p q xs)
  where
    go : (b : Bool) → filter (λ x. p x && q x) xs ≡ filter q (filter p xs) → cond (b && q x) (x ∷ filter (λ x. p x && q x) xs) (filter (λ x. p x && q x) xs) ≡ filter q (cond b (x ∷ filter p xs) (filter p xs))
    go true e = ap (λ (l : List A). cond (q x) (x ∷ l) l) e
    go false e = e

pub find_none : {A : Type 0} (t q : A → Bool) (xs : List A) → find t xs ≡ None → find t (filter q xs) ≡ None
find_none t q [] e = refl
find_none {A} t q (x ∷ xs) e =
    let later : find t xs ≡ None → find t (filter q xs) ≡ None = find_none t q xs in
    cond_both (t x) (Some x) (find t xs) (λ (o : Option A). o ≡ None → find t (filter q (x ∷ xs)) ≡ None)
    (λ yes is. absurd cc)
    (λ no is. cond_both (q x) (x ∷ filter q xs) (filter q xs) (λ (l : List A). find t l ≡ None)
    (λ yes. cond-false (t x) (Some x) (find t (filter q xs)) no ∙ later is) (λ out. later is)) e

pub find_kept : {A : Type 0} (t q : A → Bool) (xs : List A) (m : A) → q m ≡ true → find t xs ≡ Some m → find t (filter q xs) ≡ Some m
find_kept t q [] m keep e = absurd cc
find_kept {A} t q (x ∷ xs) m keep e =
    let later : find t xs ≡ Some m → find t (filter q xs) ≡ Some m = find_kept t q xs m keep in
    cond_both (t x) (Some x) (find t xs) (λ (o : Option A). o ≡ Some m → find t (filter q (x ∷ xs)) ≡ Some m)
    (λ yes is. let here : x ≡ m = same_Some x m is in
    let passes : q x ≡ true = ap q here ∙ keep in
    ap (λ (l : List A). find t l) (cond-true (q x) (x ∷ filter q xs) (filter q xs) passes) ∙ cond-true (t x) (Some x) (find t (filter q xs)) yes ∙ ap Some here)
    (λ no is. cond_both (q x) (x ∷ filter q xs) (filter q xs) (λ (l : List A). find t l ≡ Some m)
    (λ yes. cond-false (t x) (Some x) (find t (filter q xs)) no ∙ later is) (λ out. later is)) e

pub find_nothing : {A : Type 0} (t : A → Bool) (xs : List A) → ((x : A) → IsAmong xs x → t x ≡ false) → find t xs ≡ None
find_nothing t [] never = refl
find_nothing t (x ∷ xs) never = cond-false (t x) (Some x) (find t xs) (never x (inl refl)) ∙ find_nothing t xs (λ y h. never y (inr h))

pub find_passes : {A : Type 0} (t : A → Bool) (xs : List A) (x : A) → find t xs ≡ Some x → t x ≡ true
find_passes t [] x e = absurd cc
find_passes {A} t (y ∷ xs) x e =
    let later : find t xs ≡ Some x → t x ≡ true = find_passes t xs x in
    cond_both (t y) (Some y) (find t xs) (λ (o : Option A). o ≡ Some x → t x ≡ true) (λ yes is. subst (λ (z : A). t z ≡ true) (same_Some y x is) yes) (λ no is. later is) e

pub filter_out : {A : Type 0} (q : A → Bool) (xs : List A) (x : A) → IsAmong (filter q xs) x → q x ≡ true
filter_out q [] x h = absurd h
filter_out {A} q (y ∷ xs) x h =
    let later : IsAmong (filter q xs) x → q x ≡ true = filter_out q xs x in
    cond_both (q y) (y ∷ filter q xs) (filter q xs) (λ (l : List A). IsAmong l x → q x ≡ true)
    (λ yes k. ⊎_elim (λ here. ap q here ∙ yes) later k) (λ no k. later k) h

-- the slots but one
abbrev pub but : ℕ → (ℕ → Bool) → ℕ → Bool
but slot P s = P s && not (s == slot)

abbrev elsewhere : ℕ → Member → Bool
elsewhere slot m = not (m.slot == slot)

within_but : (slot : ℕ) (P : ℕ → Bool) (ms : List Member) → within (but slot P) ms ≡ filter (elsewhere slot) (within P ms)
unfolding within
within_but slot P ms = filter_and (λ (m : Member). P m.slot) (elsewhere slot) ms

-- a named copy in the slot
record IsNamedAt (ms : List Member) (slot : ℕ) (r : Status) : Type 0 where
  member : Member
  among : IsAmong ms member
  at : member.slot ≡ slot
  named : IsNamed r member.header

-- what one disk's copy contributes, with the changed slot and without it
data Part (N : Type 0) (after : Option Content) (xs ys : List Content) : Type 0 where
  alike : xs ≡ ys → Part N after xs ys
  changed : N → xs ≡ to_list after → ys ≡ [] → Part N after xs ys

module _ (ms : List Member) (slot : ℕ) (d : Metadata) (distinct : AreDistinct ms) (r : Status) (P : ℕ → Bool) where
  held_elsewhere : (m : Member) → (m.slot ≡ slot → ⊥) → member_contents (Some (replaced slot d m)) ≡ member_contents (Some m)
  held_elsewhere m differ = ap (λ (n : Member). to_list n.disk.content) (cond-false (m.slot == slot) (record m { disk = d }) m (ne_eqb m.slot slot differ))

  held_here : (m : Member) → m.slot ≡ slot → member_contents (Some (replaced slot d m)) ≡ to_list d.content
  held_here m same = ap (λ (n : Member). to_list n.disk.content) (cond-true (m.slot == slot) (record m { disk = d }) m (eq-eqb m.slot slot same))

  module _ (x : ℕ) (e : Entry) (is : entry_of r.entries x ≡ Some e) (named : IsAmong (elements r.directories) x) where
    abbrev test : Member → Bool
    test m = is_disk x e.birth m.header

    abbrev the_part : Type 0
    the_part = Part (IsNamedAt ms slot r) d.content (member_contents (find test (map (replaced slot d) (within P ms)))) (member_contents (find test (within (but slot P) ms)))

    found_after : (o : Option Member) → find test (within P ms) ≡ o → member_contents (find test (map (replaced slot d) (within P ms))) ≡ member_contents (option_map (replaced slot d) o)
    found_after o found = ap member_contents (find_map (replaced slot d) test (within P ms) (λ m. ap (λ (h : Header). is_disk x e.birth h) ((replaced_keeps slot d).header m))
        ∙ ap (λ (p : Option Member). option_map (replaced slot d) p) found)

    no_part : find test (within P ms) ≡ None → the_part
    no_part none =
        let right : member_contents (find test (within (but slot P) ms)) ≡ [] = ap (λ (l : List Member). member_contents (find test l)) (within_but slot P ms) ∙ ap member_contents (find_none test (elsewhere slot) (within P ms) none) in
        alike (found_after None none ∙ sym right)

    other_part : (m : Member) → find test (within P ms) ≡ Some m → (m.slot ≡ slot → ⊥) → the_part
    other_part m some differ =
        let keep : elsewhere slot m ≡ true = ap not (ne_eqb m.slot slot differ) in
        let right : member_contents (find test (within (but slot P) ms)) ≡ member_contents (Some m) =
        ap (λ (l : List Member). member_contents (find test l)) (within_but slot P ms) ∙ ap member_contents (find_kept test (elsewhere slot) (within P ms) m keep some) in
        alike (found_after (Some m) some ∙ held_elsewhere m differ ∙ sym right)

    disk_parts : (m : Member) → test m ≡ true → (m.header.number ≡ x) × (m.header.birth ≡ e.birth)
    disk_parts m passes = let p = and_parts (m.header.number == x) (m.header.birth == e.birth) passes in (eqb-true m.header.number x p.0, eqb-true m.header.birth e.birth p.1)

    this_part : (m : Member) → find test (within P ms) ≡ Some m → m.slot ≡ slot → the_part
    this_part m some at =
        let among : IsAmong ms m = among_within P ms m (found_among test (within P ms) m some) in
        let disk = disk_parts m (find_passes test (within P ms) m some) in
        let never : (n : Member) → IsAmong (filter (elsewhere slot) (within P ms)) n → test n ≡ false = λ n h.
        false_from_ne_true (test n) (λ passes.
        let also = disk_parts n passes in
        let slot_same : n.slot ≡ m.slot = distinct n m (among_within P ms n (among_filter (elsewhere slot) (within P ms) n h)) among (also.0 ∙ sym disk.0) (also.1 ∙ sym disk.1) in
        both_ways (n.slot == slot) (not-true (n.slot == slot) (filter_out (elsewhere slot) (within P ms) n h)) (eq-eqb n.slot slot (slot_same ∙ at))) in
        let right : member_contents (find test (within (but slot P) ms)) ≡ [] =
        ap (λ (l : List Member). member_contents (find test l)) (within_but slot P ms) ∙ ap member_contents (find_nothing test (filter (elsewhere slot) (within P ms)) never) in
        changed
        (record {
          member = m;
          among = among;
          at = at;
          named = record {
            named = subst (λ (k : ℕ). IsAmong (elements r.directories) k) (sym disk.0) named;
            entry = e;
            entry_is = ap (λ (k : ℕ). entry_of r.entries k) disk.0 ∙ is;
            birth = sym disk.1;
          };
        })
        (found_after (Some m) some ∙ held_here m at) right

    one_part : (o : Option Member) → find test (within P ms) ≡ o → the_part
    one_part None none = no_part none
    one_part (Some m) some = ⊎_elim (λ at. this_part m some at) (λ differ. other_part m some differ) (cases_eq m.slot slot)

  copy_part : (x : ℕ) (o : Option Entry) → entry_of r.entries x ≡ o → IsAmong (elements r.directories) x → Part (IsNamedAt ms slot r) d.content (copy_on (map (replaced slot d) (within P ms)) x o) (copy_on (within (but slot P) ms) x o)
  copy_part x None is named = alike refl
  copy_part x (Some e) is named = one_part x e is named (find (test x e is named) (within P ms)) refl

-- ---- all the copies

inserted_same : (N : Type 0) (k : Content) (front xs ys : List Content) → Inserted N k xs ys → Inserted N k (front ++ xs) (front ++ ys)
inserted_same N k [] xs ys ins = ins
inserted_same N k (x ∷ front) xs ys ins = both x (inserted_same N k front xs ys ins)

inserted_part : (N : Type 0) (k : Content) (ls rs xs ys : List Content) → Part N (Some k) ls rs → Inserted N k xs ys → Inserted N k (ls ++ xs) (rs ++ ys)
inserted_part N k ls rs xs ys (alike e) ins = subst (λ (l : List Content). Inserted N k (ls ++ xs) (l ++ ys)) e (inserted_same N k ls xs ys ins)
inserted_part N k ls rs xs ys (changed n e f) ins = subst (λ (l : List Content). Inserted N k (l ++ xs) (rs ++ ys)) (sym e) (subst (λ (l : List Content). Inserted N k (k ∷ xs) (l ++ ys)) (sym f) (more n ins))

inserted_all : (N : Type 0) (k : Content) (g h : ℕ → List Content) (ds : List ℕ) → ((d : ℕ) → IsAmong ds d → Part N (Some k) (g d) (h d)) → Inserted N k (flat_map g ds) (flat_map h ds)
inserted_all N k g h [] parts = none_left
inserted_all N k g h (d ∷ ds) parts = inserted_part N k (g d) (h d) (flat_map g ds) (flat_map h ds) (parts d (inl refl)) (inserted_all N k g h ds (λ e a. parts e (inr a)))

lost_part : (N : Type 0) (ls rs : List Content) → Part N None ls rs → ls ≡ rs
lost_part N ls rs (alike e) = e
lost_part N ls rs (changed n e f) = e ∙ sym f

lost_all : (N : Type 0) (g h : ℕ → List Content) (ds : List ℕ) → ((d : ℕ) → IsAmong ds d → Part N None (g d) (h d)) → flat_map g ds ≡ flat_map h ds
lost_all N g h [] parts = refl
lost_all N g h (d ∷ ds) parts = λ i. lost_part N (g d) (h d) (parts d (inl refl)) i ++ lost_all N g h ds (λ e a. parts e (inr a)) i

module _ (ms : List Member) (slot : ℕ) (d : Metadata) (distinct : AreDistinct ms) (r : Status) (P : ℕ → Bool) where
  copies_gained : (k : Content) → d.content ≡ Some k → Inserted (IsNamedAt ms slot r) k (copies r (map (replaced slot d) (within P ms))) (copies r (within (but slot P) ms))
  unfolding copies
  copies_gained k is = inserted_all (IsNamedAt ms slot r) k (λ x. copy_on (map (replaced slot d) (within P ms)) x (entry_of r.entries x)) (λ x. copy_on (within (but slot P) ms) x (entry_of r.entries x)) (elements r.directories)
      (λ x named. subst (λ (o : Option Content). Part (IsNamedAt ms slot r) o (copy_on (map (replaced slot d) (within P ms)) x (entry_of r.entries x)) (copy_on (within (but slot P) ms) x (entry_of r.entries x))) is
      (copy_part ms slot d distinct r P x (entry_of r.entries x) refl named))

  copies_lost : d.content ≡ None → copies r (map (replaced slot d) (within P ms)) ≡ copies r (within (but slot P) ms)
  unfolding copies
  copies_lost is = lost_all (IsNamedAt ms slot r) (λ x. copy_on (map (replaced slot d) (within P ms)) x (entry_of r.entries x)) (λ x. copy_on (within (but slot P) ms) x (entry_of r.entries x)) (elements r.directories)
      (λ x named. subst (λ (o : Option Content). Part (IsNamedAt ms slot r) o (copy_on (map (replaced slot d) (within P ms)) x (entry_of r.entries x)) (copy_on (within (but slot P) ms) x (entry_of r.entries x))) is
      (copy_part ms slot d distinct r P x (entry_of r.entries x) refl named))

-- ---- the law

pub commit_disk : (old new : Metadata) (g : Group) (r : Status) (m : Member) → ChangesContent old new → m.disk ≡ old → IsDiskOf g r m → IsDiskOf g r (record m { disk = new })
commit_disk old new g r m change is d =
    let others : new ≡ record m.disk { content = new.content; decodes = new.decodes } = change.others ∙ ap (λ (x : Metadata). record x { content = new.content; decodes = new.decodes }) (sym is) in
    record {
      claims = subst (λ (x : Metadata). IsTrue (list_all is_some x.claims)) (sym others) d.claims;
      statuses = subst (λ (x : Metadata). IsTrue (list_all is_some x.statuses)) (sym others) d.statuses;
      directories = change.decode (subst (λ (x : Metadata). IsTrue x.decodes) is d.directories);
      name = d.name;
      shape = d.shape;
      units = λ e entry birth. subst (λ (x : Metadata). e.units ≤ units_in m.header.shape x.size) (sym others) (d.units e entry birth);
    }

module _ (id : ℕ) (old : ImageBytes) (groups : List Group) (completed : Option Status) (begun : List Status) (sound : SoundBy id old groups completed begun) (slot : ℕ) (bytes : List ℕ)
    (step : IsCopyCommitted id old groups completed begun slot bytes) where
  abbrev ms : List Member
  ms = all_members id old

  abbrev d : Metadata
  d = metadata bytes

  abbrev f : Member → Member
  f = replaced slot d

  keeps : Keeps f
  keeps = replaced_keeps slot d

  members_same : all_members id (written old slot bytes) ≡ map f ms
  members_same = members_replaced id old slot bytes step.inside (ap (λ (x : Metadata). x.header) step.change.others)

  statuses_same : (m : Member) → IsAmong ms m → (f m).disk.statuses ≡ m.disk.statuses
  statuses_same m h = at_change id old slot d (λ a b. b.disk.statuses ≡ a.disk.statuses)
      (λ a is. ap (λ (x : Metadata). x.statuses) (step.change.others ∙ ap (λ (y : Metadata). record y { content = d.content; decodes = d.decodes }) (sym is))) (λ a. refl) m h

  claims_same : (m : Member) → IsAmong ms m → (f m).disk.claims ≡ m.disk.claims
  claims_same m h = at_change id old slot d (λ a b. b.disk.claims ≡ a.disk.claims)
      (λ a is. ap (λ (x : Metadata). x.claims) (step.change.others ∙ ap (λ (y : Metadata). record y { content = d.content; decodes = d.decodes }) (sym is))) (λ a. refl) m h

  disks : (g : Group) (r : Status) (m : Member) → IsAmong ms m → IsDiskOf g r m → IsDiskOf g r (f m)
  disks g r m h = at_change id old slot d (λ a b. IsDiskOf g r a → IsDiskOf g r b) (λ a is k. commit_disk (disk_of old slot) d g r a step.change is k) (λ a k. k) m h

  fits_after : Fits id (map f ms) completed begun
  fits_after = fits_raised id f keeps ms (λ m c h k. (c, subst (λ (cs : List (Option Claim)). IsAmong (claims_of_group id cs) c) (sym (claims_same m h)) k, omega arith)) statuses_same completed begun sound.fits

  -- what is found without the slot is found before
  found_without : (r : Status) → IsAmong (current_records completed begun) r → r.gone ≡ false → (P : ℕ → Bool) (c : Content) → newest (copies r (within (but slot P) ms)) ≡ Some c
      → (g : Group) × IsAmong groups g × Describes (written old slot bytes) (map f ms) (map f ms) r c g
  found_without r counts not_gone P c is =
      let g = (sound.covered r counts not_gone).described (but slot P) c is in (
        g.0,
        g.1,
        described_map old (written old slot bytes) f keeps ms r c g.0 (disks g.0 r) (λ items decodes x i copy inner h m is_member current lt.
            step.copies r items x i copy inner h m (record { counts = counts; not_gone = not_gone; readable = but slot P; content = c; found = is; decodes = decodes }) is_member current lt) g.2,
      )

  copies_after : (r : Status) (P : ℕ → Bool) → copies r (within P (map f ms)) ≡ copies r (map f (within P ms))
  copies_after r P = ap (λ (l : List Member). copies r l) (within_map f keeps P ms)

  described_lost : d.content ≡ None → (r : Status) → IsAmong (current_records completed begun) r → r.gone ≡ false → (P : ℕ → Bool) (c : Content) → directories r (within P (map f ms)) ≡ Some c
      → (g : Group) × IsAmong groups g × Describes (written old slot bytes) (map f ms) (map f ms) r c g
  described_lost none r counts not_gone P c is = found_without r counts not_gone P c (ap newest (sym (copies_after r P ∙ copies_lost ms slot d sound.fits.distinct r P none)) ∙ is)

  described_gained : (k : Content) → d.content ≡ Some k → IsKnown id old (written old slot bytes) groups completed begun slot k → (r : Status) → IsAmong (current_records completed begun) r → r.gone ≡ false
      → (P : ℕ → Bool) (c : Content) → directories r (within P (map f ms)) ≡ Some c → (g : Group) × IsAmong groups g × Describes (written old slot bytes) (map f ms) (map f ms) r c g
  described_gained k some known r counts not_gone P c is = ⊎_elim
      (λ new. subst (λ (l : List Member). (g : Group) × IsAmong groups g × Describes (written old slot bytes) l l r c g) members_same
      (subst (λ (e : Content). (g : Group) × IsAmong groups g × Describes (written old slot bytes) (all_members id (written old slot bytes)) (all_members id (written old slot bytes)) r e g) (sym new.1)
      (known.described r new.0.member counts not_gone new.0.among new.0.at new.0.named)))
      (λ before. found_without r counts not_gone P c before)
      (newest_inserted (copies_gained ms slot d sound.fits.distinct r P k some) c (ap newest (sym (copies_after r P)) ∙ is))

  -- the content of a changed member: that of the member elsewhere, and the new one in the slot
  elsewhere_same : (m : Member) → (m.slot ≡ slot → ⊥) → (f m).disk.content ≡ m.disk.content
  elsewhere_same m differ = ap (λ (n : Member). n.disk.content) (cond-false (m.slot == slot) (record m { disk = d }) m (ne_eqb m.slot slot differ))

  here_new : (m : Member) → m.slot ≡ slot → (f m).disk.content ≡ d.content
  here_new m at = ap (λ (n : Member). n.disk.content) (cond-true (m.slot == slot) (record m { disk = d }) m (eq-eqb m.slot slot at))

  abbrev OneContent : Status → Type 0
  OneContent r = (m n : Member) (a b : Content) → IsAmong ms m → IsAmong ms n → IsNamed r m.header → IsNamed r n.header → (f m).disk.content ≡ Some a → (f n).disk.content ≡ Some b → a.commit ≡ b.commit → a ≡ b

  one_lost : d.content ≡ None → (r : Status) → IsAmong (current_records completed begun) r → r.gone ≡ false → OneContent r
  one_lost none r counts not_gone m n a b hm hn named_m named_n is_a is_b e =
      let out : (x : Member) (k : Content) → (f x).disk.content ≡ Some k → x.slot ≡ slot → ⊥ = λ x k is at. none-some k (sym none ∙ sym (here_new x at) ∙ is) in
      (sound.covered r counts not_gone).one_content m n a b hm hn named_m named_n (sym (elsewhere_same m (out m a is_a)) ∙ is_a) (sym (elsewhere_same n (out n b is_b)) ∙ is_b) e

  one_gained : (k : Content) → d.content ≡ Some k → IsKnown id old (written old slot bytes) groups completed begun slot k → (r : Status) → IsAmong (current_records completed begun) r → r.gone ≡ false → OneContent r
  one_gained k some known r counts not_gone m n a b hm hn named_m named_n is_a is_b e =
      let new : (x : Member) (y : Content) → (f x).disk.content ≡ Some y → x.slot ≡ slot → y ≡ k = λ x y is at. same_Some y k (sym is ∙ here_new x at ∙ some) in
      let commit_of : (x y : Content) → x ≡ y → x.commit ≡ y.commit = λ x y p. ap (λ (z : Content). z.commit) p in
      ⊎_elim
      (λ at_m. ⊎_elim
      (λ at_n. new m a is_a at_m ∙ sym (new n b is_b at_n))
      (λ off_n. new m a is_a at_m ∙ sym (known.agrees r m n b counts not_gone hm at_m named_m hn off_n named_n (sym (elsewhere_same n off_n) ∙ is_b) (sym e ∙ commit_of a k (new m a is_a at_m))))
      (cases_eq n.slot slot))
      (λ off_m. ⊎_elim
      (λ at_n. known.agrees r n m a counts not_gone hn at_n named_n hm off_m named_m (sym (elsewhere_same m off_m) ∙ is_a) (e ∙ commit_of b k (new n b is_b at_n)) ∙ sym (new n b is_b at_n))
      (λ off_n. (sound.covered r counts not_gone).one_content m n a b hm hn named_m named_n (sym (elsewhere_same m off_m) ∙ is_a) (sym (elsewhere_same n off_n) ∙ is_b) e)
      (cases_eq n.slot slot))
      (cases_eq m.slot slot)

  covered_after : (r : Status) → IsAmong (current_records completed begun) r → r.gone ≡ false → OneContent r
      → ((P : ℕ → Bool) (c : Content) → directories r (within P (map f ms)) ≡ Some c → (g : Group) × IsAmong groups g × Describes (written old slot bytes) (map f ms) (map f ms) r c g)
      → IsCovered id (written old slot bytes) (map f ms) groups r
  covered_after r counts not_gone one described =
      let before = sound.covered r counts not_gone in
      record {
        one_content = λ m n a b hm hn named_m named_n is_a is_b e.
            let x = map_among f ms m hm in
            let y = map_among f ms n hn in
            one x.0 y.0 a b x.1 y.1
            (subst (λ (h : Header). IsNamed r h) (ap (λ (z : Member). z.header) x.2 ∙ keeps.header x.0) named_m) (subst (λ (h : Header). IsNamed r h) (ap (λ (z : Member). z.header) y.2 ∙ keeps.header y.0) named_n)
            (sym (ap (λ (z : Member). z.disk.content) x.2) ∙ is_a) (sym (ap (λ (z : Member). z.disk.content) y.2) ∙ is_b) e;
        member_births = λ m h. let a = map_among f ms m h in subst (λ (x : Header). x.birth ≤ r.births) (sym (ap (λ (x : Member). x.header) a.2 ∙ keeps.header a.0)) (before.member_births a.0 a.1);
        entry_births = λ s e h k. before.entry_births s e (subst (λ (l : List Status). IsAmong l s) (statuses_map f id ms statuses_same) h) k;
        described = described;
      }

  from_cover : ((r : Status) → IsAmong (current_records completed begun) r → r.gone ≡ false → IsCovered id (written old slot bytes) (map f ms) groups r) → SoundBy id (written old slot bytes) groups completed begun
  from_cover cover = record {
    fits = subst (λ (l : List Member). Fits id l completed begun) (sym members_same) fits_after;
    covered = λ r counts not_gone. subst (λ (l : List Member). IsCovered id (written old slot bytes) l groups r) (sym members_same) (cover r counts not_gone);
  }

  by_outcome : Outcome id old (written old slot bytes) groups completed begun slot (disk_of old slot).content d.content → SoundBy id (written old slot bytes) groups completed begun
  by_outcome (keeps_old_content same) = from_cover (λ r counts not_gone. cover_replaced id old (written old slot bytes) groups completed begun sound f keeps
      (λ m h. at_change id old slot d (λ a b. b.disk.content ≡ a.disk.content) (λ a is. same ∙ ap (λ (x : Metadata). x.content) (sym is)) (λ a. refl) m h) disks step.copies r counts not_gone
      (λ s e h k. (sound.covered r counts not_gone).entry_births s e (subst (λ (l : List Status). IsAmong l s) (statuses_map f id ms statuses_same) h) k))
  by_outcome (loses_content none) = from_cover (λ r counts not_gone. covered_after r counts not_gone (one_lost none r counts not_gone) (described_lost none r counts not_gone))
  by_outcome (gains_content k some known) = from_cover (λ r counts not_gone. covered_after r counts not_gone (one_gained k some known r counts not_gone) (described_gained k some known r counts not_gone))

  pub commit_keeps : SoundBy id (written old slot bytes) groups completed begun
  commit_keeps = by_outcome step.outcome
