-- The sets that records share, and what majorities have in common.
use Rattle.std.proofs.Common.{◌≡◌, ◌⊎◌, inl, inr, ⊎_elim, ℕ, suc, ◌+◌, ◌*◌, ◌≤◌, Bool, true, false, cond, List, [], ◌∷◌, length, filter, refl, sym, ap, subst, ◌∙◌, Option, Some, None, arith, IsTrue, ◌==◌}
use Rattle.std.specs.List.{list_all}
use Rattle.std.proofs.lemmas.Bool.{cond_both, cond-true, cond-false, cases_Bool, eqb-true, eq-eqb, ne_eqb, and_parts, or_cases, both_ways, ltb-true}
use Rattle.std.proofs.lemmas.Option.{same_Some}
use Rattle.asm_formats.specs.Status.{Status, Entry}
use Rattle.asm_formats.specs.Following.{Holder, disks_of, sets_of, sets, FollowsSets, Follows}
use Rattle.asm_formats.specs.Among.{IsAmong}
use Rattle.asm_images.specs.Members.{Member, is_disk, has_disk}
use Rattle.asm_images.specs.Register.{Fits, current_records, base, is_majority, is_enough}
use Rattle.asm_images.specs.Laws.{ShareASet}

-- ---- the sets of a record

-- one set, or two
data Form (all : List (List Holder)) : Type 0 where
  one : (h : List Holder) → all ≡ h ∷ [] → Form all
  two : (h n : List Holder) → all ≡ h ∷ n ∷ [] → Form all

form_of : (entries : List Entry) (holders next : ℕ) → Form (sets_of entries holders next)
unfolding sets_of
form_of entries holders next = cond_both (next == 0) [] (disks_of entries next ∷ []) (λ (l : List (List Holder)). Form (disks_of entries holders ∷ l))
    (λ yes. one (disks_of entries holders) refl) (λ no. two (disks_of entries holders) (disks_of entries next) refl)

-- the set that every later record has too
pivot : List (List Holder) → List Holder
pivot (h ∷ n ∷ []) = n
pivot (h ∷ []) = h
pivot _ = []

follows_pivot : (vs rs : List (List Holder)) → FollowsSets vs rs → IsAmong rs (pivot vs)
unfolding pivot
follows_pivot [] rs f = absurd f
follows_pivot (h ∷ []) [] f = absurd f
follows_pivot (h ∷ []) (l ∷ others) f = inl (sym f)
follows_pivot (h ∷ n ∷ []) rs (inl e) = subst (λ (l : List (List Holder)). IsAmong l n) (sym e) (inr (inl refl))
follows_pivot (h ∷ n ∷ []) rs (inr e) = subst (λ (l : List (List Holder)). IsAmong l n) (sym e) (inl refl)
follows_pivot (h ∷ n ∷ x ∷ more) rs f = absurd f

form_pivot : (vs : List (List Holder)) → Form vs → IsAmong vs (pivot vs)
unfolding pivot
form_pivot vs (one h e) = subst (λ (l : List (List Holder)). IsAmong l (pivot l)) (sym e) (inl refl)
form_pivot vs (two h n e) = subst (λ (l : List (List Holder)). IsAmong l (pivot l)) (sym e) (inr (inl refl))

own_pivot : (v : Status) → IsAmong (sets v) (pivot (sets v))
own_pivot v = form_pivot (sets v) (form_of v.entries v.holders v.next_holders)

form_follows : (vs : List (List Holder)) → Form vs → FollowsSets vs vs
form_follows vs (one h e) = subst (λ (l : List (List Holder)). FollowsSets l l) (sym e) refl
form_follows vs (two h n e) = subst (λ (l : List (List Holder)). FollowsSets l l) (sym e) (inl refl)

pub follows_itself : (v : Status) → Follows v v
follows_itself v = form_follows (sets v) (form_of v.entries v.holders v.next_holders)

-- ---- the two steps of a move

single : (entries : List Entry) (holders next : ℕ) → next ≡ 0 → sets_of entries holders next ≡ disks_of entries holders ∷ []
unfolding sets_of
single entries holders next e = ap (λ (l : List (List Holder)). disks_of entries holders ∷ l) (cond-true (next == 0) [] (disks_of entries next ∷ []) (eq-eqb next 0 e))

double : (entries : List Entry) (holders next : ℕ) → (next ≡ 0 → ⊥) → sets_of entries holders next ≡ disks_of entries holders ∷ disks_of entries next ∷ []
unfolding sets_of
double entries holders next e = ap (λ (l : List (List Holder)). disks_of entries holders ∷ l) (cond-false (next == 0) [] (disks_of entries next ∷ []) (ne_eqb next 0 e))

begins_with : (entries : List Entry) (holders next : ℕ) (h : List Holder) → h ≡ disks_of entries holders → FollowsSets (h ∷ []) (sets_of entries holders next)
unfolding sets_of
begins_with entries holders next h e = sym e

pub move_follows : (v : Status) (next epoch turn : ℕ)
    → (v.next_holders ≡ 0 → Follows v (record v { epoch = epoch; turn = turn; next_holders = next }))
    × ((v.next_holders ≡ 0 → ⊥) → Follows v (record v { epoch = epoch; turn = turn; holders = v.next_holders; next_holders = 0 }))
move_follows v next epoch turn = (
  λ none. subst (λ (l : List (List Holder)). FollowsSets l (sets_of v.entries v.holders next)) (sym (single v.entries v.holders v.next_holders none))
      (begins_with v.entries v.holders next (disks_of v.entries v.holders) refl),
  λ some. subst (λ (l : List (List Holder)). FollowsSets l (sets_of v.entries v.next_holders 0)) (sym (double v.entries v.holders v.next_holders some))
      (inr (single v.entries v.next_holders 0 refl)),
)

-- ---- records that share a set

pub followers_share : (v r s : Status) → Follows v r → ShareASet v r × (Follows v s → ShareASet r s)
followers_share v r s f = (
  record { set = pivot (sets v); first = own_pivot v; second = follows_pivot (sets v) (sets r) f },
  λ g. record { set = pivot (sets v); first = follows_pivot (sets v) (sets r) f; second = follows_pivot (sets v) (sets s) g },
)

pub has_base : (completed : Option Status) (begun : List Status) (s : Status) → IsAmong (current_records completed begun) s → (v : Status) × (base completed begun ≡ Some v)
has_base None [] s h = absurd h
has_base None (r ∷ rs) s h = (r, refl)
has_base (Some v) begun s h = (v, refl)

pub base_counts : (completed : Option Status) (begun : List Status) (v : Status) → base completed begun ≡ Some v → IsAmong (current_records completed begun) v
base_counts None [] v e = absurd cc
base_counts None (r ∷ rs) v e = inl (sym (same_Some r v e))
base_counts (Some w) begun v e = inl (sym (same_Some w v e))

pivot_counts : (id : ℕ) (ms : List Member) (completed : Option Status) (begun : List Status) → Fits id ms completed begun → (v s : Status) → base completed begun ≡ Some v → IsAmong (current_records completed begun) s → IsAmong (sets s) (pivot (sets v))
pivot_counts id ms None begun fits v s is h = follows_pivot (sets v) (sets s) (fits.follow v s is h)
pivot_counts id ms (Some w) begun fits v s is (inl e) = subst (λ (t : Status). IsAmong (sets t) (pivot (sets v))) (sym (e ∙ same_Some w v is)) (own_pivot v)
pivot_counts id ms (Some w) begun fits v s is (inr h) = follows_pivot (sets v) (sets s) (fits.follow v s is h)

pub current_share : (id : ℕ) (ms : List Member) (completed : Option Status) (begun : List Status) → Fits id ms completed begun
    → (r s : Status) → IsAmong (current_records completed begun) r → IsAmong (current_records completed begun) s → ShareASet r s
current_share id ms completed begun fits r s hr hs =
    let v = has_base completed begun r hr in
    record { set = pivot (sets v.0); first = pivot_counts id ms completed begun fits v.0 r v.1 hr; second = pivot_counts id ms completed begun fits v.0 s v.1 hs }

-- a record that follows the base shares a set with each that counts
pub follower_shares : (id : ℕ) (ms : List Member) (completed : Option Status) (begun : List Status) → Fits id ms completed begun
    → (v r s : Status) → base completed begun ≡ Some v → Follows v r → IsAmong (current_records completed begun) s → ShareASet r s
follower_shares id ms completed begun fits v r s is f hs =
    record { set = pivot (sets v); first = follows_pivot (sets v) (sets r) f; second = pivot_counts id ms completed begun fits v s is hs }

pub shares_itself : (r : Status) → ShareASet r r
shares_itself r = record { set = pivot (sets r); first = own_pivot r; second = own_pivot r }

-- ---- two majorities of one list meet

abbrev Meets : {A : Type 0} → (A → Bool) → (A → Bool) → List A → Type 0
Meets {A} p q xs = (x : A) × IsAmong xs x × (p x ≡ true) × (q x ≡ true)

counted : {A : Type 0} (b c : Bool) (x : A) (ps qs : List A) (n : ℕ) → length ps + length qs ≤ n → (b ≡ true → c ≡ true → ⊥) → length (cond b (x ∷ ps) ps) + length (cond c (x ∷ qs) qs) ≤ suc n
counted true true x ps qs n le differ = absurd (differ refl refl)
counted true false x ps qs n le differ = omega arith
counted false true x ps qs n le differ = omega arith
counted false false x ps qs n le differ = omega arith

further : {A : Type 0} (p q : A → Bool) (x : A) (xs : List A) → Meets p q xs → Meets p q (x ∷ xs)
further p q x xs m = (m.0, inr m.1, m.2, m.3)

meet : {A : Type 0} (p q : A → Bool) (xs : List A) → Meets p q xs ⊎ (length (filter p xs) + length (filter q xs) ≤ length xs)
meet p q [] = inr (omega arith)
meet {A} p q (x ∷ xs) = ⊎_elim
    (λ m. inl (further p q x xs m))
    (λ le. ⊎_elim
    (λ yes. ⊎_elim (λ also. inl (x, inl refl, yes, also))
    (λ no. inr (counted (p x) (q x) x (filter p xs) (filter q xs) (length xs) le (λ a b. both_ways (q x) no b))) (cases_Bool (q x)))
    (λ no. inr (counted (p x) (q x) x (filter p xs) (filter q xs) (length xs) le (λ a b. both_ways (p x) no a))) (cases_Bool (p x)))
    (meet p q xs)

majorities_meet : (ms ns : List Member) (all : List Holder) → is_majority ms all ≡ true → is_majority ns all ≡ true → Meets (λ (h : Holder). has_disk ms h.0 h.1) (λ (h : Holder). has_disk ns h.0 h.1) all
majorities_meet ms ns all a b = ⊎_elim (λ m. m)
    (λ le. absurd (omega (arith, ltb-true (length all) (2 * length (filter (λ (h : Holder). has_disk ms h.0 h.1) all)) a, ltb-true (length all) (2 * length (filter (λ (h : Holder). has_disk ns h.0 h.1) all)) b, le)))
    (meet (λ (h : Holder). has_disk ms h.0 h.1) (λ (h : Holder). has_disk ns h.0 h.1) all)

-- a member that is the disk
found_disk : (ms : List Member) (d birth : ℕ) → has_disk ms d birth ≡ true → (m : Member) × IsAmong ms m × (m.header.number ≡ d) × (m.header.birth ≡ birth)
found_disk [] d birth e = absurd cc
found_disk (m ∷ ms) d birth e = ⊎_elim
    (λ here. let p = and_parts (m.header.number == d) (m.header.birth == birth) here in (m, inl refl, eqb-true m.header.number d p.0, eqb-true m.header.birth birth p.1))
    (λ there. let n = found_disk ms d birth there in (n.0, inr n.1, n.2, n.3))
    (or_cases (is_disk d birth m.header) (has_disk ms d birth) e)

pub all_among : {A : Type 0} (p : A → Bool) (xs : List A) (x : A) → list_all p xs ≡ true → IsAmong xs x → p x ≡ true
all_among p [] x all h = absurd h
all_among {A} p (y ∷ xs) x all (inl e) = ap p e ∙ (and_parts (p y) (list_all p xs) all).0
all_among p (y ∷ xs) x all (inr h) = all_among p xs x (and_parts (p y) (list_all p xs) all).1 h

majority_of : (r : Status) (ms : List Member) (set : List Holder) → is_enough r ms ≡ true → IsAmong (sets r) set → is_majority ms set ≡ true
unfolding is_enough
majority_of r ms set enough h = all_among (is_majority ms) (sets r) set enough h

-- members that are enough for two records with a common set have a disk in common
pub enough_meet : (r s : Status) (ms ns : List Member) → ShareASet r s → IsTrue (is_enough r ms) → IsTrue (is_enough s ns)
    → (m : Member) × (n : Member) × IsAmong ms m × IsAmong ns n × (m.header.number ≡ n.header.number) × (m.header.birth ≡ n.header.birth)
enough_meet r s ms ns share a b =
    let h = majorities_meet ms ns share.set (majority_of r ms share.set a share.first) (majority_of s ns share.set b share.second) in
    let m = found_disk ms h.0.0 h.0.1 h.2 in
    let n = found_disk ns h.0.0 h.0.1 h.3 in
    (m.0, n.0, m.1, n.1, m.2 ∙ sym n.2, m.3 ∙ sym n.3)
