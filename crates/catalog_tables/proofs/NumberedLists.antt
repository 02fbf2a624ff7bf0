-- Lists in the order of their numbers.
use Rattle.std.proofs.Common.{◌≡◌, ◌≤◌, ℕ, suc, Ordering, Bool, true, false, cond, List, [], ◌∷◌, length, Option, Some, None, refl, sym, ap, subst, ◌∙◌, arith, inl, inr, ◌⊎◌}
use Rattle.std.specs.List.{AllByRecursion}
use Rattle.std.specs.Ordering.{is_lt, nat_cmp}
use Rattle.std.specs.declared.cmp.Ordering.TheVariants.{Less, Equal, Greater}
use Rattle.std.specs.BTreeMap.{is_at, insert_entry}
use Rattle.std.specs.Map.{lookup, remove_entry}
use Rattle.std.specs.Cmp.{Equal-is}
use Rattle.std.specs.FinMap.{nat_cmp-IsAntisymmetric}
use Rattle.std.proofs.lemmas.Bool.{true≢false}
use Rattle.std.proofs.lemmas.Cmp.{eq_by_cmp_equiv, nat_cmp_total}
use Rattle.std.proofs.lemmas.Option.{none-some}
use Rattle.asm_base.specs.Records.{Ascend}
use Rattle.asm_base.proofs.Exact.{some_is}
use Rattle.extent_map.proofs.Lookups.{put_here, put_other}

pub either : (b : Bool) → (b ≡ true) ⊎ (b ≡ false)
either true = inl refl
either false = inr refl

less_is : (r : Ordering) → is_lt r ≡ true → r ≡ Less
less_is Less e = refl
less_is Equal e = absurd cc
less_is Greater e = absurd cc

-- ---- numbers

pub number_is : (m n : ℕ) → is_at (nat_cmp m) n ≡ true → m ≡ n
number_is m n e = nat_cmp-IsAntisymmetric m n ((Equal-is (nat_cmp m n)).0 e)

pub number_itself : (n : ℕ) → is_at (nat_cmp n) n ≡ true
number_itself n = (eq_by_cmp_equiv nat_cmp_total).refl n

-- what is at k isn't at another number
pub not_at : (k q n : ℕ) → is_at (nat_cmp k) n ≡ true → is_at (nat_cmp k) q ≡ false → is_at (nat_cmp q) n ≡ false
not_at k q n found other = elim (either (is_at (nat_cmp q) n)) [
  | inl x ↦ absurd (true≢false (sym (subst (λ (m : ℕ). is_at (nat_cmp k) m ≡ true) (sym (number_is q n x)) found) ∙ other))
  | inr y ↦ y
]

-- ---- lists in the order of their numbers

module _ {X : Type 0} where
  abbrev pub at : List (ℕ × X) → ℕ → Option X
  at es q = lookup (is_at (nat_cmp q)) es

  abbrev pub Up : List (ℕ × X) → Type 0
  Up es = Ascend (λ a b. is_lt (nat_cmp a b)) es

  pub rest : (e : ℕ × X) (es : List (ℕ × X)) → Up (e ∷ es) → Up es
  rest e [] up = tt
  rest e (f ∷ es) up = up.1

  none_below : (k : ℕ) (e : ℕ × X) (es : List (ℕ × X)) → nat_cmp k e.0 ≡ Less → Up (e ∷ es) → at (e ∷ es) k ≡ None
  none_below k e [] lt up = rw lt refl
  none_below k e (f ∷ es) lt up = rw lt (none_below k f es (nat_cmp_total.trans k e.0 f.0 lt (less_is (nat_cmp e.0 f.0) up.0)) up.1)

  pub none_behind : (e : ℕ × X) (es : List (ℕ × X)) → Up (e ∷ es) → at es e.0 ≡ None
  none_behind e [] up = refl
  none_behind e (f ∷ es) up = none_below e.0 f es (less_is (nat_cmp e.0 f.0) up.0) up.1

  pub new_longer : (k : ℕ) (v : X) (es : List (ℕ × X)) → Up es → at es k ≡ None → length (insert_entry nat_cmp es k v) ≡ suc (length es)
  new_longer k v [] up none = refl
  new_longer k v (e ∷ es) up none = by (nat_cmp k e.0) refl (new_longer k v es (rest e es up)) where
    by : (o : Ordering) → nat_cmp k e.0 ≡ o → (at es k ≡ None → length (insert_entry nat_cmp es k v) ≡ suc (length es)) → length (insert_entry nat_cmp (e ∷ es) k v) ≡ suc (length (e ∷ es))
    by Less q more = rw q refl
    by Equal q more = absurd (none-some e.1 (sym (rw q at none)))
    by Greater q more = rw q (ap suc (more (rw q at none)))

  pub there_as_long : (k : ℕ) (v x : X) (es : List (ℕ × X)) → Up es → at es k ≡ Some x → length (insert_entry nat_cmp es k v) ≡ length es
  there_as_long k v x [] up there = absurd (none-some x there)
  there_as_long k v x (e ∷ es) up there = by (nat_cmp k e.0) refl (there_as_long k v x es (rest e es up)) where
    by : (o : Ordering) → nat_cmp k e.0 ≡ o → (at es k ≡ Some x → length (insert_entry nat_cmp es k v) ≡ length es) → length (insert_entry nat_cmp (e ∷ es) k v) ≡ length (e ∷ es)
    by Less q more = absurd (none-some x (sym (none_below k e es q up) ∙ there))
    by Equal q more = rw q refl
    by Greater q more = rw q (ap suc (more (rw q at there)))

  -- one more at most
  pub put_few : (k : ℕ) (v : X) (es : List (ℕ × X)) → length (insert_entry nat_cmp es k v) ≤ suc (length es)
  put_few k v [] = omega arith
  put_few k v (e ∷ es) = by (nat_cmp k e.0) refl (put_few k v es) where
    by : (o : Ordering) → nat_cmp k e.0 ≡ o → length (insert_entry nat_cmp es k v) ≤ suc (length es) → length (insert_entry nat_cmp (e ∷ es) k v) ≤ suc (length (e ∷ es))
    by Less q more = rw q (omega arith)
    by Equal q more = rw q (omega arith)
    by Greater q more = rw q (omega (arith, more))

  pub gone_few : (test : ℕ → Bool) (es : List (ℕ × X)) → length (remove_entry test es) ≤ length es
  gone_few test [] = omega arith
  gone_few test (e ∷ es) = by (test e.0) refl (gone_few test es) where
    by : (b : Bool) → test e.0 ≡ b → length (remove_entry test es) ≤ length es → length (remove_entry test (e ∷ es)) ≤ length (e ∷ es)
    by true q more = rw q (omega arith)
    by false q more = rw q (omega (arith, more))

  pub gone_at : (k q : ℕ) (es : List (ℕ × X)) → Up es → at (remove_entry (is_at (nat_cmp k)) es) q ≡ cond (is_at (nat_cmp k) q) None (at es q)
  gone_at k q [] up = nothing (is_at (nat_cmp k) q) where
    nothing : (b : Bool) → ◌≡◌ {A = Option X} None (cond b None None)
    nothing true = refl
    nothing false = refl
  gone_at k q (e ∷ es) up = elim (either (is_at (nat_cmp k) e.0)) [
    | inl found ↦ elim (either (is_at (nat_cmp k) q)) [
      | inl same ↦
          let e_q : e.0 ≡ q = sym (number_is k e.0 found) ∙ number_is k q same in
          rw (found, same) (subst (λ (n : ℕ). at es n ≡ None) e_q (none_behind e es up))
      | inr other ↦ rw (found, other, not_at k q e.0 found other) refl
    ]
    | inr miss ↦ elim (either (is_at (nat_cmp q) e.0)) [
      | inl here ↦
          let other : is_at (nat_cmp k) q ≡ false = subst (λ (n : ℕ). is_at (nat_cmp k) n ≡ false) (sym (number_is q e.0 here)) miss in
          rw (miss, here, other) refl
      | inr past ↦ rw (miss, past) (gone_at k q es (rest e es up))
    ]
  ]

  -- an entry that is put stands at its number
  pub put_at : (k : ℕ) (v : X) (es : List (ℕ × X)) (q : ℕ) → at (insert_entry nat_cmp es k v) q ≡ cond (is_at (nat_cmp k) q) (Some v) (at es q)
  put_at k v es q = elim (either (is_at (nat_cmp k) q)) [
    | inl hit ↦
        let here : at (insert_entry nat_cmp es k v) k ≡ Some v = put_here nat_cmp nat_cmp-IsAntisymmetric k v (number_itself k) es in
        rw hit (ap (λ (n : ℕ). at (insert_entry nat_cmp es k v) n) (sym (number_is k q hit)) ∙ here)
    | inr miss ↦
        let there : at (insert_entry nat_cmp es k v) q ≡ at es q = put_other nat_cmp nat_cmp-IsAntisymmetric k v q (not_at k q k (number_itself k) miss) es in
        rw miss there
  ]

  -- what holds of each entry that stands at its number holds of all
  pub there_all : (P : ℕ × X → Type 0) (es : List (ℕ × X)) → Up es → ((n : ℕ) (x : X) → at es n ≡ Some x → P (n, x)) → AllByRecursion P es
  there_all P [] up each = tt
  there_all P (e ∷ es) up each = (each e.0 e.1 (rw (number_itself e.0) refl), there_all P es (rest e es up) (λ n x f. each n x (behind n x f (either (is_at (nat_cmp n) e.0))))) where
    behind : (n : ℕ) (x : X) → at es n ≡ Some x → (is_at (nat_cmp n) e.0 ≡ true) ⊎ (is_at (nat_cmp n) e.0 ≡ false) → at (e ∷ es) n ≡ Some x
    behind n x f (inl hit) = absurd (none-some x (sym (none_behind e es up) ∙ (ap (λ (m : ℕ). at es m) (sym (number_is n e.0 hit)) ∙ f)))
    behind n x f (inr miss) = rw miss f

  pub all_there : (P : ℕ × X → Type 0) (es : List (ℕ × X)) → AllByRecursion P es → (n : ℕ) (x : X) → at es n ≡ Some x → P (n, x)
  all_there P [] all n x f = absurd (none-some x f)
  all_there P (e ∷ es) all n x f = by (either (is_at (nat_cmp n) e.0)) (all_there P es all.1 n x) where
    by : (is_at (nat_cmp n) e.0 ≡ true) ⊎ (is_at (nat_cmp n) e.0 ≡ false) → (at es n ≡ Some x → P (n, x)) → P (n, x)
    by (inl hit) more =
        let same : e.1 ≡ x = some_is e.1 x (rw hit at f) in
        subst (λ (y : X). P (n, y)) same (subst (λ (m : ℕ). P (m, e.1)) (sym (number_is n e.0 hit)) all.0)
    by (inr miss) more = more (rw miss at f)
