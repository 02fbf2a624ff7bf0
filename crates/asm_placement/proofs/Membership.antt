-- Elements of lists.
use Rattle.std.proofs.Common.{◌≡◌, ◌⊎◌, inl, inr, ⊎_elim, Bool, true, List, [], ◌∷◌, ◌++◌, filter, map, refl, sym, ap, subst, ◌∙◌}
use Rattle.std.specs.List.{flat_map}
use Rattle.std.proofs.lemmas.Bool.{cond_both, both_ways}
use Rattle.asm_formats.specs.Among.{IsAmong}

pub among_left : {A : Type 0} (xs ys : List A) (x : A) → IsAmong xs x → IsAmong (xs ++ ys) x
among_left [] ys x h = absurd h
among_left (y ∷ xs) ys x (inl e) = inl e
among_left (y ∷ xs) ys x (inr h) = inr (among_left xs ys x h)

pub among_right : {A : Type 0} (xs ys : List A) (x : A) → IsAmong ys x → IsAmong (xs ++ ys) x
among_right [] ys x h = h
among_right (y ∷ xs) ys x h = inr (among_right xs ys x h)

pub among_split : {A : Type 0} (xs ys : List A) (x : A) → IsAmong (xs ++ ys) x → IsAmong xs x ⊎ IsAmong ys x
among_split [] ys x h = inr h
among_split (y ∷ xs) ys x (inl e) = inl (inl e)
among_split (y ∷ xs) ys x (inr h) = ⊎_elim (λ a. inl (inr a)) (λ b. inr b) (among_split xs ys x h)

-- what a filter keeps was there, and passes
kept_was : {A : Type 0} (y : A) (kept xs : List A) (x : A) → (IsAmong kept x → IsAmong xs x) → IsAmong (y ∷ kept) x → IsAmong (y ∷ xs) x
kept_was y kept xs x before (inl e) = inl e
kept_was y kept xs x before (inr h) = inr (before h)

pub among_filter : {A : Type 0} (test : A → Bool) (xs : List A) (x : A) → IsAmong (filter test xs) x → IsAmong xs x
among_filter test [] x h = h
among_filter {A} test (y ∷ xs) x h =
    let before : IsAmong (filter test xs) x → IsAmong xs x = among_filter test xs x in
    cond_both (test y) (y ∷ filter test xs) (filter test xs) (λ (l : List A). IsAmong l x → IsAmong (y ∷ xs) x)
    (λ yes. kept_was y (filter test xs) xs x before) (λ no. λ k. inr (before k)) h

pub among_flat_map : {A B : Type 0} (f : A → List B) (xs : List A) (y : B) → IsAmong (flat_map f xs) y → (x : A) × IsAmong xs x × IsAmong (f x) y
among_flat_map f [] y h = absurd h
among_flat_map {A} {B} f (x ∷ xs) y h = ⊎_elim (λ here. (x, inl refl, here)) (λ there. further (among_flat_map f xs y there)) (among_split (f x) (flat_map f xs) y h)
  where
    further : (z : A) × IsAmong xs z × IsAmong (f z) y → (z : A) × IsAmong (x ∷ xs) z × IsAmong (f z) y
    further p = (p.0, inr p.1, p.2)

pub flat_map_among : {A B : Type 0} (f : A → List B) (xs : List A) (x : A) (y : B) → IsAmong xs x → IsAmong (f x) y → IsAmong (flat_map f xs) y
flat_map_among f [] x y h k = absurd h
flat_map_among {A} {B} f (z ∷ xs) x y (inl e) k = among_left (f z) (flat_map f xs) y (subst (λ (a : A). IsAmong (f a) y) e k)
flat_map_among f (z ∷ xs) x y (inr h) k = among_right (f z) (flat_map f xs) y (flat_map_among f xs x y h k)

pub among_map : {A B : Type 0} (f : A → B) (xs : List A) (x : A) → IsAmong xs x → IsAmong (map f xs) (f x)
among_map f [] x h = absurd h
among_map f (y ∷ xs) x (inl e) = inl (ap f e)
among_map f (y ∷ xs) x (inr h) = inr (among_map f xs x h)

pub map_among : {A B : Type 0} (f : A → B) (xs : List A) (y : B) → IsAmong (map f xs) y → (x : A) × IsAmong xs x × (y ≡ f x)
map_among f [] y h = absurd h
map_among f (z ∷ xs) y (inl e) = (z, inl refl, e)
map_among {A} {B} f (z ∷ xs) y (inr h) = further (map_among f xs y h)
  where
    further : (x : A) × IsAmong xs x × (y ≡ f x) → (x : A) × IsAmong (z ∷ xs) x × (y ≡ f x)
    further p = (p.0, inr p.1, p.2)

pub filter_out : {A : Type 0} (q : A → Bool) (xs : List A) (x : A) → IsAmong (filter q xs) x → q x ≡ true
filter_out q [] x h = absurd h
filter_out {A} q (y ∷ xs) x h =
    let later : IsAmong (filter q xs) x → q x ≡ true = filter_out q xs x in
    cond_both (q y) (y ∷ filter q xs) (filter q xs) (λ (l : List A). IsAmong l x → q x ≡ true)
    (λ yes k. ⊎_elim (λ here. ap q here ∙ yes) later k) (λ no k. later k) h

pub among_filtered : {A : Type 0} (q : A → Bool) (xs : List A) (x : A) → IsAmong xs x → q x ≡ true → IsAmong (filter q xs) x
among_filtered q [] x h keep = absurd h
among_filtered {A} q (y ∷ xs) x h keep =
    let later : IsAmong xs x → IsAmong (filter q xs) x = λ k. among_filtered q xs x k keep in
    cond_both (q y) (y ∷ filter q xs) (filter q xs) (λ (l : List A). IsAmong l x)
    (λ yes. ⊎_elim (λ here. inl here) (λ there. inr (later there)) h)
    (λ out. ⊎_elim (λ here. absurd (both_ways (q y) out (ap q (sym here) ∙ keep))) (λ there. later there) h)
