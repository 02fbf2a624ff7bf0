-- Entries in the order of their keys: what is found among them, and lists that have the same ones.
use Rattle.std.proofs.Common.{◌≡◌, Bool, true, false, List, [], ◌∷◌, inl, inr, Option, Some, None, refl, sym, ap, subst, ◌∙◌}
use Rattle.std.specs.FinMap as maps
use Rattle.std.specs.FinMap.Entries.{below_all, same_entries}
use Rattle.std.specs.Cmp.{IsTotalOrder, Equal-is}
use Rattle.std.specs.Ordering.{eq_by_cmp, is_eq, is_lt}
use Rattle.std.specs.declared.cmp.Ordering.{Ordering}
use Rattle.std.specs.declared.cmp.Ordering.TheVariants.{Less, Equal, Greater}
use Rattle.std.proofs.Math.Dec.{T}
use Rattle.std.proofs.lemmas.Bool.{and_parts, cases_Bool, false_from_ne_true}
use Rattle.std.proofs.lemmas.Cmp.{eq_by_cmp_equiv}
use Rattle.std.proofs.lemmas.Option.{none-some, same_Some}
use Rattle.asm_formats.specs.Among.{IsAmong}

pub t_true : (b : Bool) → T b → b ≡ true
t_true true h = refl
t_true false h = absurd h

pub true_t : (b : Bool) → b ≡ true → T b
true_t b e = subst (λ (c : Bool). T c) (sym e) tt

not_both : (o : Ordering) → is_lt o ≡ true → is_eq o ≡ true → ⊥
not_both Less a b = absurd cc
not_both Equal a b = absurd cc
not_both Greater a b = absurd cc

pub less_is : (o : Ordering) → is_lt o ≡ true → o ≡ Less
less_is Less e = refl
less_is Equal e = absurd cc
less_is Greater e = absurd cc

module _ {K : Type 0} (R : K → K → Ordering) (total : IsTotalOrder R) (same : maps.IsAntisymmetric R) where
  key_is : (p q : K) → eq_by_cmp R p q ≡ true → p ≡ q
  key_is p q e = same p q ((Equal-is (R p q)).0 e)

  key_self : (p : K) → eq_by_cmp R p p ≡ true
  key_self p = (eq_by_cmp_equiv total).refl p

  key_other : (p q : K) → (p ≡ q → ⊥) → eq_by_cmp R p q ≡ false
  key_other p q other = false_from_ne_true (eq_by_cmp R p q) (λ e. other (key_is p q e))

module _ {K X : Type 0} (R : K → K → Ordering) (total : IsTotalOrder R) (same : maps.IsAntisymmetric R) where
  -- what stands behind a key is above it
  pub above : (k : K) (es : List (K × X)) → below_all R k es ≡ true → (x : K × X) → IsAmong es x → R k x.0 ≡ Less
  above k [] below x m = absurd m
  above k (y ∷ es) below x m =
      let p = and_parts (is_lt (R k y.0)) (below_all R k es) below in
      elim m [
        | inl here ↦ ap (λ (e : K × X). R k e.0) here ∙ less_is (R k y.0) p.0
        | inr later ↦ above k es p.1 x later
      ]

  not_first : (k : K) (es : List (K × X)) → below_all R k es ≡ true → (x : K × X) → IsAmong es x → x.0 ≡ k → ⊥
  not_first k es below x m at =
      not_both (R k x.0) (ap is_lt (above k es below x m)) (ap (λ (q : K). eq_by_cmp R k q) at ∙ key_self R total same k)

  -- an entry is found by its key
  pub sorted_find : (es : List (K × X)) → maps.is_sorted R es ≡ true → (x : K × X) → IsAmong es x → maps.find R x.0 es ≡ Some x.1
  sorted_find [] up x m = absurd m
  sorted_find (y ∷ es) up x m =
      let p = and_parts (below_all R y.0 es) (maps.is_sorted R es) up in
      elim m [
        | inl here ↦ subst (λ (e : K × X). maps.find R e.0 (y ∷ es) ≡ Some e.1) (sym here) (rw (key_self R total same y.0) refl)
        | inr later ↦
            let other : eq_by_cmp R x.0 y.0 ≡ false = key_other R total same x.0 y.0 (λ at. not_first y.0 es p.0 x later at) in
            rw other (sorted_find es p.1 x later)
      ]

  pub find_among : (es : List (K × X)) (q : K) (x : X) → maps.find R q es ≡ Some x → IsAmong es (q, x)
  find_among [] q x h = absurd (none-some x h)
  find_among (y ∷ es) q x h = elim (cases_Bool (eq_by_cmp R q y.0)) [
    | inl hit ↦
        let v : y.1 ≡ x = same_Some y.1 x (rw hit at h) in
        inl (ap (λ (p : K). (p, x)) (key_is R total same q y.0 hit) ∙ ap (λ (w : X). (y.0, w)) (sym v))
    | inr miss ↦ inr (find_among es q x (rw miss at h))
  ]

  module _ (a b : List (K × X)) (a_up : maps.is_sorted R a ≡ true) (b_up : maps.is_sorted R b ≡ true) (to : (x : K × X) → IsAmong a x → IsAmong b x) (from : (x : K × X) → IsAmong b x → IsAmong a x) where
    found_same : (q : K) → maps.find R q a ≡ maps.find R q b
    found_same q = by (maps.find R q a) refl where
      none : maps.find R q a ≡ None → (o : Option X) → maps.find R q b ≡ o → None ≡ o
      none e None f = refl
      none e (Some x) f = absurd (none-some x (sym e ∙ sorted_find a a_up (q, x) (from (q, x) (find_among b q x f))))

      by : (o : Option X) → maps.find R q a ≡ o → maps.find R q a ≡ maps.find R q b
      by None e = e ∙ none e (maps.find R q b) refl
      by (Some x) e = e ∙ sym (sorted_find b b_up (q, x) (to (q, x) (find_among a q x e)))

    -- lists in order that have the same entries are the same
    pub same_members : a ≡ b
    same_members = same_entries R total same a b (true_t (maps.is_sorted R a) a_up) (true_t (maps.is_sorted R b) b_up) found_same
