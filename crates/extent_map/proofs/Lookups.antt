-- What stands at a key of a list of entries where one of them changes.
use Rattle.std.proofs.Common.{◌≡◌, ◌≤◌, suc, Ordering, Bool, true, false, cond, List, [], ◌∷◌, length, Option, Some, None, refl, sym, ap, subst, ◌∙◌, arith, inl, inr, ◌⊎◌}
use Rattle.std.specs.Ordering.{is_eq, is_lt, ordering_reverse}
use Rattle.std.specs.declared.cmp.Ordering.TheVariants.{Less, Equal, Greater}
use Rattle.std.specs.BTreeMap.{is_at, insert_entry}
use Rattle.std.specs.Cmp.{IsTotalOrder}
use Rattle.std.specs.Map.{lookup, remove_entry, set_value}
use Rattle.std.specs.List.{AllByRecursion}
use Rattle.std.specs.Option.{is_some}
use Rattle.std.proofs.lemmas.Bool.{true≢false}
use Rattle.std.proofs.lemmas.Cmp.{eq_by_cmp_equiv}
use Rattle.std.proofs.lemmas.Option.{none-some}
use Rattle.asm_base.proofs.Exact.{some_is}
use Rattle.asm_base.specs.Records.{Ascend}
use Rattle.extent_map.proofs.Numbering.{is_same, less_is}

module _ {K : Type 0} (R : K → K → Ordering) (same : (x y : K) → R x y ≡ Equal → x ≡ y) where
  missed : (k q e : K) → is_at (R k) e ≡ true → is_at (R q) k ≡ false → is_at (R q) e ≡ false
  missed k q e found other = subst (λ (j : K). is_at (R q) j ≡ false) (same k e (is_same (R k e) found)) other

  abbrev at : {X : Type 0} → List (K × X) → K → Option X
  at es q = lookup (is_at (R q)) es

  abbrev with_value : {X : Type 0} → List (K × X) → K → X → List (K × X)
  with_value es k v = set_value (is_at (R k)) es v

  abbrev Up : {X : Type 0} → List (K × X) → Type 0
  Up es = Ascend (λ a b. is_lt (R a b)) es

  -- ---- an entry that is there gets another value

  pub set_here : {X : Type 0} (k : K) (v : X) (es : List (K × X)) → is_some (at es k) ≡ true → at (with_value es k v) k ≡ Some v
  set_here {X} k v [] there = absurd cc
  set_here {X} k v (e ∷ es) there = by (is_at (R k) e.0) refl (λ t. set_here k v es t) where
    by : (b : Bool) → is_at (R k) e.0 ≡ b → (is_some (at es k) ≡ true → at (with_value es k v) k ≡ Some v) → at (with_value (e ∷ es) k v) k ≡ Some v
    by true q more = rw (q, q) refl
    by false q more = rw (q, q) (more (rw q at there))

  pub set_other : {X : Type 0} (k : K) (v : X) (q : K) → is_at (R q) k ≡ false → (es : List (K × X)) → at (with_value es k v) q ≡ at es q
  set_other {X} k v q other [] = refl
  set_other {X} k v q other (e ∷ es) = by (is_at (R k) e.0) refl (set_other k v q other es) where
    by : (b : Bool) → is_at (R k) e.0 ≡ b → at (with_value es k v) q ≡ at es q → at (with_value (e ∷ es) k v) q ≡ at (e ∷ es) q
    by true h more = rw (h, missed k q e.0 h other) refl
    by false h more = rw h (ap (λ (o : Option X). cond (is_at (R q) e.0) (Some e.1) o) more)

  other_value : {X : Type 0} (e : K × X) (v : X) (es : List (K × X)) → Up (e ∷ es) → Up ((e.0, v) ∷ es)
  other_value e v [] up = tt
  other_value e v (f ∷ es) up = up

  set_behind : {X : Type 0} (k : K) (v : X) (a : K × X) (es : List (K × X)) → Up (a ∷ es) → Up (a ∷ with_value es k v)
  set_behind {X} k v a [] up = tt
  set_behind {X} k v a (e ∷ es) up = by (is_at (R k) e.0) refl (set_behind k v e es up.1) where
    by : (b : Bool) → is_at (R k) e.0 ≡ b → Up (e ∷ with_value es k v) → Up (a ∷ with_value (e ∷ es) k v)
    by true q more = rw q (up.0, other_value e v es up.1)
    by false q more = rw q (up.0, more)

  pub set_ascends : {X : Type 0} (k : K) (v : X) (es : List (K × X)) → Up es → Up (with_value es k v)
  set_ascends {X} k v [] up = tt
  set_ascends {X} k v (e ∷ es) up = by (is_at (R k) e.0) refl where
    by : (b : Bool) → is_at (R k) e.0 ≡ b → Up (with_value (e ∷ es) k v)
    by true q = rw q (other_value e v es up)
    by false q = rw q (set_behind k v e es up)

  pub set_all : {X : Type 0} (P : K × X → Type 0) (k : K) (v : X) (es : List (K × X)) → AllByRecursion P es → P (k, v) → AllByRecursion P (with_value es k v)
  set_all {X} P k v [] all p = tt
  set_all {X} P k v (e ∷ es) all p = by (is_at (R k) e.0) refl (set_all P k v es all.1 p) where
    by : (b : Bool) → is_at (R k) e.0 ≡ b → AllByRecursion P (with_value es k v) → AllByRecursion P (with_value (e ∷ es) k v)
    by true q more = rw q (subst (λ (j : K). P (j, v)) (same k e.0 (is_same (R k e.0) q)) p, all.1)
    by false q more = rw q (all.0, more)

  -- ---- a new entry

  pub put_here : {X : Type 0} (k : K) (v : X) → is_at (R k) k ≡ true → (es : List (K × X)) → at (insert_entry R es k v) k ≡ Some v
  put_here {X} k v self [] = rw self refl
  put_here {X} k v self (e ∷ es) = by (R k e.0) refl (put_here k v self es) where
    by : (o : Ordering) → R k e.0 ≡ o → at (insert_entry R es k v) k ≡ Some v → at (insert_entry R (e ∷ es) k v) k ≡ Some v
    by Less q more = rw (q, self) refl
    by Equal q more = rw (q, q) refl
    by Greater q more = rw (q, q) more

  pub put_other : {X : Type 0} (k : K) (v : X) (q : K) → is_at (R q) k ≡ false → (es : List (K × X)) → at (insert_entry R es k v) q ≡ at es q
  put_other {X} k v q other [] = rw other refl
  put_other {X} k v q other (e ∷ es) = by (R k e.0) refl (put_other k v q other es) where
    by : (o : Ordering) → R k e.0 ≡ o → at (insert_entry R es k v) q ≡ at es q → at (insert_entry R (e ∷ es) k v) q ≡ at (e ∷ es) q
    by Less h more = rw (h, other) refl
    by Equal h more = rw (h, missed k q e.0 (ap is_eq h) other) refl
    by Greater h more = rw h (ap (λ (o : Option X). cond (is_at (R q) e.0) (Some e.1) o) more)

-- ---- entries in the order of their keys

one_of : (b : Bool) → (b ≡ true) ⊎ (b ≡ false)
one_of true = inl refl
one_of false = inr refl

module _ {K : Type 0} (R : K → K → Ordering) (same : (x y : K) → R x y ≡ Equal → x ≡ y) (order : IsTotalOrder R) where
  key_itself : (k : K) → is_at (R k) k ≡ true
  key_itself k = (eq_by_cmp_equiv order).refl k

  pub key_is : (k q : K) → is_at (R k) q ≡ true → k ≡ q
  key_is k q e = same k q (is_same (R k q) e)

  -- the test of two keys says the same both ways
  pub both_ways : (k q : K) → is_at (R k) q ≡ is_at (R q) k
  both_ways k q = elim (one_of (is_at (R k) q)) [
    | inl hit ↦ hit ∙ sym (subst (λ (j : K). is_at (R j) k ≡ true) (key_is k q hit) (key_itself k))
    | inr miss ↦ elim (one_of (is_at (R q) k)) [
      | inl back ↦ absurd (true≢false (sym (subst (λ (j : K). is_at (R k) j ≡ true) (sym (key_is q k back)) (key_itself k)) ∙ miss))
      | inr other ↦ miss ∙ sym other
    ]
  ]

  tail_in_order : {X : Type 0} (e : K × X) (es : List (K × X)) → Up R same (e ∷ es) → Up R same es
  tail_in_order e [] up = tt
  tail_in_order e (f ∷ es) up = up.1

  -- what stands behind an entry comes after it
  pub behind : {X : Type 0} (e : K × X) (es : List (K × X)) (k : K) (v : X) → Up R same (e ∷ es) → at R same es k ≡ Some v → R e.0 k ≡ Less
  behind {X} e [] k v up there = absurd (none-some v there)
  behind {X} e (f ∷ es) k v up there = elim (one_of (is_at (R k) f.0)) [
    | inl here ↦ subst (λ (j : K). R e.0 j ≡ Less) (sym (key_is k f.0 here)) (less_is (R e.0 f.0) up.0)
    | inr past ↦ order.trans e.0 f.0 k (less_is (R e.0 f.0) up.0) (behind f es k v up.1 (rw past at there))
  ]

  less_back : (k q : K) → R k q ≡ Less → R q k ≡ Less → ⊥
  less_back k q less back = true≢false (ap is_lt (sym back ∙ (order.antisymm q k ∙ ap ordering_reverse less)))

  -- nothing is at a key that comes before the first
  none_before : {X : Type 0} (e : K × X) (es : List (K × X)) (k : K) → R k e.0 ≡ Less → Up R same (e ∷ es) → at R same (e ∷ es) k ≡ None
  none_before {X} e es k less up = by (at R same (e ∷ es) k) refl where
    by : (o : Option X) → at R same (e ∷ es) k ≡ o → o ≡ None
    by None there = refl
    by (Some v) there =
        let miss : is_at (R k) e.0 ≡ false = ap is_eq less in
        absurd (less_back k e.0 less (behind e es k v up (rw miss at there)))

  -- no later entry has the key of the first
  pub none_behind : {X : Type 0} (e : K × X) (es : List (K × X)) → Up R same (e ∷ es) → at R same es e.0 ≡ None
  none_behind {X} e es up = by (at R same es e.0) refl where
    by : (o : Option X) → at R same es e.0 ≡ o → o ≡ None
    by None there = refl
    by (Some v) there =
        let less = behind e es e.0 v up there in
        absurd (less_back e.0 e.0 less less)

  -- an entry that is put as it is changes nothing
  pub put_same : {X : Type 0} (k : K) (v : X) (es : List (K × X)) → Up R same es → at R same es k ≡ Some v → insert_entry R es k v ≡ es
  put_same {X} k v [] up there = absurd (none-some v there)
  put_same {X} k v (e ∷ es) up there = by (R k e.0) refl (put_same k v es (tail_in_order e es up)) where
    by : (o : Ordering) → R k e.0 ≡ o → (at R same es k ≡ Some v → insert_entry R es k v ≡ es) → insert_entry R (e ∷ es) k v ≡ e ∷ es
    by Less q more = absurd (none-some v (sym (none_before e es k q up) ∙ there))
    by Equal q more =
        let its : e.1 ≡ v = some_is e.1 v (rw q at there) in
        rw q (ap (λ (x : X). (e.0, x) ∷ es) (sym its))
    by Greater q more = rw q (ap (λ (xs : List (K × X)). e ∷ xs) (more (rw q at there)))

  pub new_longer : {X : Type 0} (k : K) (v : X) (es : List (K × X)) → Up R same es → at R same es k ≡ None → length (insert_entry R es k v) ≡ suc (length es)
  new_longer {X} k v [] up none = refl
  new_longer {X} k v (e ∷ es) up none = by (R k e.0) refl (new_longer k v es (tail_in_order e es up)) where
    by : (o : Ordering) → R k e.0 ≡ o → (at R same es k ≡ None → length (insert_entry R es k v) ≡ suc (length es)) → length (insert_entry R (e ∷ es) k v) ≡ suc (length (e ∷ es))
    by Less q more = rw q refl
    by Equal q more = absurd (none-some e.1 (sym (rw q at none)))
    by Greater q more = rw q (ap suc (more (rw q at none)))

  pub there_as_long : {X : Type 0} (k : K) (v x : X) (es : List (K × X)) → Up R same es → at R same es k ≡ Some x → length (insert_entry R es k v) ≡ length es
  there_as_long {X} k v x [] up there = absurd (none-some x there)
  there_as_long {X} k v x (e ∷ es) up there = by (R k e.0) refl (there_as_long k v x es (tail_in_order e es up)) where
    by : (o : Ordering) → R k e.0 ≡ o → (at R same es k ≡ Some x → length (insert_entry R es k v) ≡ length es) → length (insert_entry R (e ∷ es) k v) ≡ length (e ∷ es)
    by Less q more = absurd (none-some x (sym (none_before e es k q up) ∙ there))
    by Equal q more = rw q refl
    by Greater q more = rw q (ap suc (more (rw q at there)))

  pub gone_few : {X : Type 0} (test : K → Bool) (es : List (K × X)) → length (remove_entry test es) ≤ length es
  gone_few {X} test [] = omega arith
  gone_few {X} test (e ∷ es) = by (test e.0) refl (gone_few test es) where
    by : (b : Bool) → test e.0 ≡ b → length (remove_entry test es) ≤ length es → length (remove_entry test (e ∷ es)) ≤ length (e ∷ es)
    by true q more = rw q (omega arith)
    by false q more = rw q (omega (arith, more))

  -- what stands at a key once an entry is gone
  pub gone_here : {X : Type 0} (k : K) (es : List (K × X)) → Up R same es → at R same (remove_entry (is_at (R k)) es) k ≡ None
  gone_here {X} k [] up = refl
  gone_here {X} k (e ∷ es) up = elim (one_of (is_at (R k) e.0)) [
    | inl here ↦ rw here (subst (λ (j : K). at R same es j ≡ None) (sym (key_is k e.0 here)) (none_behind e es up))
    | inr past ↦ rw (past, past) (gone_here k es (tail_in_order e es up))
  ]

  pub gone_other : {X : Type 0} (k q : K) (es : List (K × X)) → is_at (R q) k ≡ false → at R same (remove_entry (is_at (R k)) es) q ≡ at R same es q
  gone_other {X} k q [] other = refl
  gone_other {X} k q (e ∷ es) other = elim (one_of (is_at (R k) e.0)) [
    | inl here ↦ rw (here, missed R same k q e.0 here other) refl
    | inr past ↦ rw past (ap (λ (o : Option X). cond (is_at (R q) e.0) (Some e.1) o) (gone_other k q es other))
  ]
