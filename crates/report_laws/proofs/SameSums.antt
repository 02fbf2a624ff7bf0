-- Sums over lists that have the same members, none of them twice.
use Rattle.std.proofs.Common.{◌≡◌, ⊎_elim, ℕ, ◌+◌, List, [], ◌∷◌, inl, inr, Option, Some, None, refl, sym, ap, subst, ◌∙◌, arith}
use Rattle.std.specs.Prelude.{filter_map, sum_by}
use Rattle.std.proofs.lemmas.List.Sums.{sum_by-cons}
use Rattle.asm_formats.specs.Among.{IsAmong}

-- no member stands twice
abbrev pub Distinct : {X : Type 0} → List X → Type 0
Distinct [] = Unit {0}
Distinct (x ∷ xs) = (IsAmong xs x → ⊥) × Distinct xs

module _ {X : Type 0} where
  -- a list without a member
  abbrev without : (ys : List X) (x : X) → IsAmong ys x → List X
  without [] x m = absurd m
  without (y ∷ ys) x (inl here) = ys
  without (y ∷ ys) x (inr later) = y ∷ without ys x later

  still : (ys : List X) (x : X) (m : IsAmong ys x) (z : X) → IsAmong (without ys x m) z → IsAmong ys z
  still [] x m z k = absurd m
  still (y ∷ ys) x (inl here) z k = inr k
  still (y ∷ ys) x (inr later) z (inl is) = inl is
  still (y ∷ ys) x (inr later) z (inr k) = inr (still ys x later z k)

  kept : (ys : List X) (x : X) (m : IsAmong ys x) (z : X) → (z ≡ x → ⊥) → IsAmong ys z → IsAmong (without ys x m) z
  kept [] x m z other k = absurd m
  kept (y ∷ ys) x (inl here) z other (inl is) = absurd (other (is ∙ sym here))
  kept (y ∷ ys) x (inl here) z other (inr k) = k
  kept (y ∷ ys) x (inr later) z other (inl is) = inl is
  kept (y ∷ ys) x (inr later) z other (inr k) = inr (kept ys x later z other k)

  distinct_without : (ys : List X) (x : X) (m : IsAmong ys x) → Distinct ys → Distinct (without ys x m)
  distinct_without [] x m d = absurd m
  distinct_without (y ∷ ys) x (inl here) d = d.1
  distinct_without (y ∷ ys) x (inr later) d = ((λ k. d.0 (still ys x later y k)), distinct_without ys x later d.1)

  gone : (ys : List X) (x : X) (m : IsAmong ys x) → Distinct ys → IsAmong (without ys x m) x → ⊥
  gone [] x m d k = absurd m
  gone (y ∷ ys) x (inl here) d k = d.0 (subst (λ (z : X). IsAmong ys z) here k)
  gone (y ∷ ys) x (inr later) d (inl is) = d.0 (subst (λ (z : X). IsAmong ys z) is later)
  gone (y ∷ ys) x (inr later) d (inr k) = gone ys x later d.1 k

  sum_without : (f : X → ℕ) (ys : List X) (x : X) (m : IsAmong ys x) → sum_by f ys ≡ f x + sum_by f (without ys x m)
  sum_without f [] x m = absurd m
  sum_without f (y ∷ ys) x (inl here) = sum_by-cons f y ys ∙ ap (λ (z : X). f z + sum_by f ys) (sym here)
  sum_without f (y ∷ ys) x (inr later) =
      let rest = sum_without f ys x later in
      let whole = sum_by-cons f y ys in
      let left = sum_by-cons f y (without ys x later) in
      omega (arith, rest, whole, left)

  -- sums over lists with the same members, none of them twice, are the same
  pub same_sums : (f : X → ℕ) (xs ys : List X) → Distinct xs → Distinct ys → ((x : X) → IsAmong xs x → IsAmong ys x) → ((y : X) → IsAmong ys y → IsAmong xs y) → sum_by f xs ≡ sum_by f ys
  same_sums f [] [] d e to from = refl
  same_sums f [] (y ∷ ys) d e to from = absurd (from y (inl refl))
  same_sums f (x ∷ xs) ys d e to from =
      let m = to x (inl refl) in
      let rest = same_sums f xs (without ys x m) d.1 (distinct_without ys x m e)
      (λ z k. kept ys x m z (λ is. d.0 (subst (λ (w : X). IsAmong xs w) is k)) (to z (inr k)))
      (λ z k. ⊎_elim (λ (is : z ≡ x). absurd (gone ys x m e (subst (λ (w : X). IsAmong (without ys x m) w) is k))) (λ later. later) (from z (still ys x m z k))) in
      sum_by-cons f x xs ∙ (ap (λ (n : ℕ). f x + n) rest ∙ sym (sum_without f ys x m))

module _ {A B : Type 0} (h : A → Option B) where
  one_from : (x : A) (xs : List A) (y : B) (o : Option B) → h x ≡ o → IsAmong (filter_map h (x ∷ xs)) y → (IsAmong (filter_map h xs) y → (z : A) × IsAmong xs z × (h z ≡ Some y))
      → (z : A) × IsAmong (x ∷ xs) z × (h z ≡ Some y)
  one_from x xs y None e m more = let z = more (rw e at m) in (z.0, inr z.1, z.2)
  one_from x xs y (Some v) e m more = ⊎_elim
      (λ (here : y ≡ v). (x, inl refl, e ∙ ap (λ (w : B). Some w) (sym here)))
      (λ later. let z = more later in (z.0, inr z.1, z.2))
      (rw e at m)

  came_from : (xs : List A) (y : B) → IsAmong (filter_map h xs) y → (x : A) × IsAmong xs x × (h x ≡ Some y)
  came_from [] y m = absurd m
  came_from (x ∷ xs) y m = one_from x xs y (h x) refl m (came_from xs y)

  -- what distinct members give is distinct, where no two give the same
  pub distinct_given : (xs : List A) → Distinct xs → ((x z : A) → IsAmong xs x → IsAmong xs z → (y : B) → h x ≡ Some y → h z ≡ Some y → x ≡ z) → Distinct (filter_map h xs)
  distinct_given [] d one = tt
  distinct_given (x ∷ xs) d one = by (h x) refl (distinct_given xs d.1 (λ a b m k. one a b (inr m) (inr k))) where
    by : (o : Option B) → h x ≡ o → Distinct (filter_map h xs) → Distinct (filter_map h (x ∷ xs))
    by None e rest = rw e rest
    by (Some y) e rest = rw e ((λ k. let z = came_from xs y k in d.0 (subst (λ (w : A). IsAmong xs w) (one z.0 x (inr z.1) (inl refl) y z.2 e) z.1)), rest)
