-- A set of disks that is gathered entry by entry.
use Rattle.std.proofs.Common.{◌≡◌, ◌≢◌, ⊎_elim, ℕ, ◌+◌, ◌<◌, ◌≤◌, Bool, true, false, ◌==◌, ◌&&◌, ◌||◌, List, length, take, get_or, nat_lt, refl, sym, ap, subst, ◌∙◌, arith}
use Rattle.std.specs.List.{list_any}
use Rattle.std.proofs.lemmas.Bool.{cases_eq, cases_lt, eq-eqb, le-ltb, lt-ltb, ne_eqb}
use Rattle.std.proofs.lemmas.List.{take_all}
use Rattle.std.proofs.lemmas.List.Folds.{list_any_more}
use Rattle.asm_formats.specs.Sets.{has_bit}
use Rattle.asm_formats.specs.Status.{Entry}
use Rattle.record_laws.specs.group_engine.Mounts.{MountedGroup}
use Rattle.disk_modes.specs.Finding.{HasAttachedDisks, IsSetOf, is_attached}
use Rattle.disk_modes.proofs.Naming.{no_bit}

pub none_found : (test : Entry → Bool) (es : List Entry) (set : ℕ) → set ≡ 0 → IsSetOf test (take 0 es) set
none_found test es set is d lt = ap (λ (n : ℕ). has_bit n d) is ∙ no_bit d

pub one_found : (test : Entry → Bool) (es : List Entry) (i : ℕ) (e : Entry) (n set after : ℕ) (more : Bool) → i < length es → e ≡ get_or es i e → n ≡ e.number → more ≡ test e
    → ((k : ℕ) → k < 64 → has_bit after k ≡ (has_bit set k || ((k == n) && more))) → IsSetOf test (take i es) set → IsSetOf test (take (i + 1) es) after
one_found test es i e n set after more lt is numbered passes made so_far d small =
    made d small ∙ ap (λ (k : ℕ). has_bit set d || ((d == k) && more)) numbered ∙ ap (λ (b : Bool). b || ((d == e.number) && more)) (so_far d small)
    ∙ ap (λ (b : Bool). list_any (λ (x : Entry). (d == x.number) && test x) (take i es) || ((d == e.number) && b)) passes
    ∙ ap (λ (x : Entry). list_any (λ (y : Entry). (d == y.number) && test y) (take i es) || ((d == x.number) && test x)) is
    ∙ sym (list_any_more (λ (x : Entry). (d == x.number) && test x) es i e lt)

pub all_found : (test : Entry → Bool) (es : List Entry) (i set : ℕ) → length es ≤ i → IsSetOf test (take i es) set → IsSetOf test es set
all_found test es i set le is = subst (λ (xs : List Entry). IsSetOf test xs set) (take_all i es le) is

pub of_entries : (test : Entry → Bool) (es all : List Entry) (set : ℕ) → es ≡ all → IsSetOf test es set → IsSetOf test all set
of_entries test es all set is found = subst (λ (xs : List Entry). IsSetOf test xs set) is found

-- ---- the attached disks, number by number

abbrev pub AreAttachedBelow : MountedGroup → ℕ → ℕ → Type 0
AreAttachedBelow m n set = (d : ℕ) → d < 64 → has_bit set d ≡ (nat_lt d n && is_attached m d)

pub none_attached : (m : MountedGroup) (set : ℕ) → set ≡ 0 → AreAttachedBelow m 0 set
none_attached m set is d lt = ap (λ (n : ℕ). has_bit n d) is ∙ no_bit d ∙ sym (ap (λ (b : Bool). b && is_attached m d) (le-ltb d 0 (omega arith)))

or_same : (b : Bool) → (b || false) ≡ b
or_same true = refl
or_same false = refl

pub one_attached : (m : MountedGroup) (n set after : ℕ) (more : Bool) → more ≡ is_attached m n → ((k : ℕ) → k < 64 → has_bit after k ≡ (has_bit set k || ((k == n) && more))) → AreAttachedBelow m n set
    → AreAttachedBelow m (n + 1) after
one_attached m n set after more is made so_far d lt =
    made d lt ∙ ap (λ (b : Bool). b || ((d == n) && more)) (so_far d lt) ∙ ap (λ (b : Bool). (nat_lt d n && is_attached m d) || ((d == n) && b)) is ∙ ⊎_elim here other (cases_eq d n)
  where
    here : d ≡ n → ((nat_lt d n && is_attached m d) || ((d == n) && is_attached m n)) ≡ (nat_lt d (n + 1) && is_attached m d)
    here same =
        ap (λ (b : Bool). (b && is_attached m d) || ((d == n) && is_attached m n)) (le-ltb d n (omega (arith, same))) ∙ ap (λ (b : Bool). b && is_attached m n) (eq-eqb d n same)
        ∙ ap (is_attached m) (sym same) ∙ ap (λ (b : Bool). b && is_attached m d) (sym (lt-ltb d (n + 1) (omega (arith, same))))

    below : nat_lt d n ≡ nat_lt d (n + 1) → (d == n) ≡ false → ((nat_lt d n && is_attached m d) || ((d == n) && is_attached m n)) ≡ (nat_lt d (n + 1) && is_attached m d)
    below same differ = ap (λ (b : Bool). (nat_lt d n && is_attached m d) || (b && is_attached m n)) differ ∙ or_same (nat_lt d n && is_attached m d) ∙ ap (λ (b : Bool). b && is_attached m d) same

    other : d ≢ n → ((nat_lt d n && is_attached m d) || ((d == n) && is_attached m n)) ≡ (nat_lt d (n + 1) && is_attached m d)
    other differ = ⊎_elim
        (λ (less : d < n). below (lt-ltb d n less ∙ sym (lt-ltb d (n + 1) (omega (arith, less)))) (ne_eqb d n differ))
        (λ (more : n ≤ d). below (le-ltb d n more ∙ sym (le-ltb d (n + 1) (omega (arith, more, differ)))) (ne_eqb d n differ))
        (cases_lt d n)

pub all_attached : (m : MountedGroup) (n set : ℕ) → 64 ≤ n → AreAttachedBelow m n set → HasAttachedDisks m set
all_attached m n set le is d lt = is d lt ∙ ap (λ (b : Bool). b && is_attached m d) (lt-ltb d n (omega (arith, le, lt)))
