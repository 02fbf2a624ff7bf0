-- What holds of each entry of a table, by what stands at each key.
use Rattle.std.proofs.Common.{◌≡◌, Ordering, Bool, true, false, List, [], ◌∷◌, Option, Some, None, refl, sym, ap, subst, ◌∙◌, inl, inr, ◌⊎◌}
use Rattle.std.specs.Prelude.{◌&&◌}
use Rattle.std.specs.Ordering.{is_eq, is_lt}
use Rattle.std.specs.declared.cmp.Ordering.TheVariants.{Equal}
use Rattle.std.specs.BTreeMap.{is_at}
use Rattle.std.specs.Cmp.{IsTotalOrder}
use Rattle.std.specs.List.{AllByRecursion}
use Rattle.std.specs.Map.{lookup}
use Rattle.std.proofs.lemmas.Cmp.{eq_by_cmp_equiv}
use Rattle.std.proofs.lemmas.Option.{none-some}
use Rattle.asm_base.specs.Records.{Ascend}
use Rattle.asm_base.proofs.Exact.{some_is}
use Rattle.extent_map.proofs.Lookups.{behind, both_ways, key_is}
use Rattle.catalog_tables.specs.Rules.{first_wrong}

pub either : (b : Bool) → (b ≡ true) ⊎ (b ≡ false)
either true = inl refl
either false = inr refl

pub both : (a b : Bool) → a ≡ true → b ≡ true → (a && b) ≡ true
both a b p q = rw (p, q) refl

pub three_true : (a b c : Bool) → a ≡ true → b ≡ true → c ≡ true → (a && (b && c)) ≡ true
three_true a b c p q r = rw (p, q, r) refl

-- ---- the first entry that isn't right

module _ {K X : Type 0} (p : K × X → Bool) where
  abbrev pub Right : K × X → Type 0
  Right x = p x ≡ true

  pub each_right : (es : List (K × X)) → first_wrong p es ≡ None → AllByRecursion Right es
  each_right [] e = tt
  each_right (x ∷ es) e = by (p x) refl (each_right es) where
    by : (b : Bool) → p x ≡ b → (first_wrong p es ≡ None → AllByRecursion Right es) → AllByRecursion Right (x ∷ es)
    by true is rest = (is, rest (rw is at e))
    by false is rest = absurd (none-some x.0 (sym (rw is at e)))

  pub none_wrong : (es : List (K × X)) → AllByRecursion Right es → first_wrong p es ≡ None
  none_wrong [] all = refl
  none_wrong (x ∷ es) all = rw all.0 (none_wrong es all.1)

-- ---- entries in the order of their keys

module _ {K X : Type 0} (R : K → K → Ordering) (same : (x y : K) → R x y ≡ Equal → x ≡ y) (order : IsTotalOrder R) where
  abbrev pub at : List (K × X) → K → Option X
  at es q = lookup (is_at (R q)) es

  abbrev pub Up : List (K × X) → Type 0
  Up es = Ascend (λ a b. is_lt (R a b)) es

  tail_up : (e : K × X) (es : List (K × X)) → Up (e ∷ es) → Up es
  tail_up e [] up = tt
  tail_up e (f ∷ es) up = up.1

  pub holds_at : (P : K × X → Type 0) (es : List (K × X)) (k : K) (v : X) → AllByRecursion P es → at es k ≡ Some v → P (k, v)
  holds_at P [] k v all there = absurd (none-some v there)
  holds_at P (e ∷ es) k v all there = elim (either (is_at (R k) e.0)) [
    | inl here ↦
        let its : e.1 ≡ v = some_is e.1 v (rw here at there) in
        subst (λ (j : K). P (j, v)) (sym (key_is R same order k e.0 here)) (subst (λ (x : X). P (e.0, x)) its all.0)
    | inr past ↦ holds_at P es k v all.1 (rw past at there)
  ]

  pub holds_all : (P : K × X → Type 0) (es : List (K × X)) → Up es → ((k : K) (v : X) → at es k ≡ Some v → P (k, v)) → AllByRecursion P es
  holds_all P [] up each = tt
  holds_all P (e ∷ es) up each = (each e.0 e.1 first, holds_all P es (tail_up e es up) later) where
    itself : is_at (R e.0) e.0 ≡ true
    itself = (eq_by_cmp_equiv order).refl e.0

    first : at (e ∷ es) e.0 ≡ Some e.1
    first = rw itself refl

    later : (k : K) (v : X) → at es k ≡ Some v → P (k, v)
    later k v there =
        let other : is_at (R k) e.0 ≡ false = both_ways R same order k e.0 ∙ ap is_eq (behind R same order e es k v up there) in
        each k v (rw other there)

  -- where only one key has another value, or none, the entries are right if that is, and what was right stays so
  pub edited : (p r : K × X → Bool) (old new : List (K × X)) (k : K) → first_wrong p old ≡ None → Up new → ((q : K) → is_at (R q) k ≡ false → at new q ≡ at old q)
      → ((v : X) → at new k ≡ Some v → r (k, v) ≡ true) → ((q : K) (v : X) → is_at (R q) k ≡ false → p (q, v) ≡ true → r (q, v) ≡ true) → first_wrong r new ≡ None
  edited p r old new k right up others here carried = none_wrong r new (holds_all (Right r) new up each) where
    each : (q : K) (v : X) → at new q ≡ Some v → r (q, v) ≡ true
    each q v there = elim (either (is_at (R q) k)) [
      | inl hit ↦
          let its : q ≡ k = key_is R same order q k hit in
          subst (λ (j : K). r (j, v) ≡ true) (sym its) (here v (subst (λ (j : K). at new j ≡ Some v) its there))
      | inr miss ↦ carried q v miss (holds_at (Right p) old q v (each_right p old right) (sym (others q miss) ∙ there))
    ]

  pub right_at : (p : K × X → Bool) (es : List (K × X)) (k : K) (v : X) → first_wrong p es ≡ None → at es k ≡ Some v → p (k, v) ≡ true
  right_at p es k v right there = holds_at (Right p) es k v (each_right p es right) there
