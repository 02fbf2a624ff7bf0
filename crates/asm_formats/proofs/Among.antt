-- Elements of lists, and tests that all of them pass.
use Rattle.std.proofs.Common.{◌≡◌, inl, inr, ℕ, zero, suc, ◌+◌, ◌<◌, ◌≤◌, Bool, true, false, cond, List, [], ◌∷◌, ◌++◌, length, get_or, map, filter, refl, sym, ap, subst, ◌∙◌, arith}
use Rattle.std.specs.List.{list_all, range_with_len}
use Rattle.std.proofs.lemmas.Bool.{and_parts, and_from, cond_both}
use Rattle.asm_formats.specs.Among.{IsAmong}

pub all_among : {A : Type 0} (t : A → Bool) (xs : List A) (x : A) → list_all t xs ≡ true → IsAmong xs x → t x ≡ true
all_among t [] x all h = absurd h
all_among t (y ∷ xs) x all (inl e) = ap t e ∙ (and_parts (t y) (list_all t xs) all).0
all_among t (y ∷ xs) x all (inr h) = all_among t xs x (and_parts (t y) (list_all t xs) all).1 h

pub all_split : {A : Type 0} (t : A → Bool) (xs ys : List A) → list_all t (xs ++ ys) ≡ true → (list_all t xs ≡ true) × (list_all t ys ≡ true)
all_split t [] ys h = (refl, h)
all_split t (x ∷ xs) ys h =
    let p = and_parts (t x) (list_all t (xs ++ ys)) h in
    let q = all_split t xs ys p.1 in
    (and_from (t x) (list_all t xs) p.0 q.0, q.1)

pub all_join : {A : Type 0} (t : A → Bool) (xs ys : List A) → list_all t xs ≡ true → list_all t ys ≡ true → list_all t (xs ++ ys) ≡ true
all_join t [] ys a b = b
all_join t (x ∷ xs) ys a b = let p = and_parts (t x) (list_all t xs) a in and_from (t x) (list_all t (xs ++ ys)) p.0 (all_join t xs ys p.1 b)

pub all_map : {A B : Type 0} (t : B → Bool) (f : A → B) (xs : List A) → ((x : A) → IsAmong xs x → t (f x) ≡ true) → list_all t (map f xs) ≡ true
all_map t f [] each = refl
all_map t f (x ∷ xs) each = and_from (t (f x)) (list_all t (map f xs)) (each x (inl refl)) (all_map t f xs (λ y h. each y (inr h)))

pub among_map : {A B : Type 0} (f : A → B) (xs : List A) (x : A) → IsAmong xs x → IsAmong (map f xs) (f x)
among_map f [] x h = absurd h
among_map f (y ∷ xs) x (inl e) = inl (ap f e)
among_map f (y ∷ xs) x (inr h) = inr (among_map f xs x h)

-- what a filter keeps was there, and passes
kept_was : {A : Type 0} (y : A) (kept xs : List A) (x : A) → (IsAmong kept x → IsAmong xs x) → IsAmong (y ∷ kept) x → IsAmong (y ∷ xs) x
kept_was y kept xs x before (inl e) = inl e
kept_was y kept xs x before (inr h) = inr (before h)

pub among_filter : {A : Type 0} (test : A → Bool) (xs : List A) (x : A) → IsAmong (filter test xs) x → IsAmong xs x
among_filter test [] x h = h
among_filter {A} test (y ∷ xs) x h =
    let before : IsAmong (filter test xs) x → IsAmong xs x = among_filter test xs x in
    cond_both (test y) (y ∷ filter test xs) (filter test xs) (λ (l : List A). IsAmong l x → IsAmong (y ∷ xs) x)
    (λ yes. kept_was y (filter test xs) xs x before) (λ no. λ k. inr (before k)) h

pub filter_among : {A : Type 0} (test : A → Bool) (xs : List A) (x : A) → test x ≡ true → IsAmong xs x → IsAmong (filter test xs) x
filter_among test [] x passes h = h
filter_among {A} test (y ∷ xs) x passes (inl e) = subst (λ (b : Bool). IsAmong (cond b (y ∷ filter test xs) (filter test xs)) x) (sym (ap test (sym e) ∙ passes)) (inl e)
filter_among {A} test (y ∷ xs) x passes (inr h) = go (test y) (filter_among test xs x passes h)
  where
    go : (b : Bool) → IsAmong (filter test xs) x → IsAmong (cond b (y ∷ filter test xs) (filter test xs)) x
    go true k = inr k
    go false k = k

-- two choices that agree where they choose the first
pub cond_same : {A : Type 0} (b c : Bool) (x y z : A) → b ≡ c → (c ≡ true → x ≡ y) → cond b x z ≡ cond c y z
cond_same {A} b c x y z e same = ap (λ (d : Bool). cond d x z) e ∙ go c same
  where
    go : (d : Bool) → (d ≡ true → x ≡ y) → cond d x z ≡ cond d y z
    go true s = s refl
    go false s = refl

pub map_range_same : {A : Type 0} (f g : ℕ → A) (a n : ℕ) → ((k : ℕ) → a ≤ k → k < a + n → f k ≡ g k) → map f (range_with_len a n) ≡ map g (range_with_len a n)
map_range_same f g a zero same = refl
map_range_same f g a (suc n) same = λ i. same a (omega arith) (omega arith) i ∷ map_range_same f g (a + 1) n (λ k low high. same k (omega arith) (omega arith)) i

-- the place of an element
pub among_index : {A : Type 0} (xs : List A) (x d : A) → IsAmong xs x → (n : ℕ) × (n < length xs) × (get_or xs n d ≡ x)
among_index [] x d h = absurd h
among_index (y ∷ xs) x d (inl e) = (0, omega arith, sym e)
among_index (y ∷ xs) x d (inr h) = let p = among_index xs x d h in (suc p.0, omega (arith, p.1), p.2)
