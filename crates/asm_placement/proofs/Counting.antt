-- Counts of copies before and after a change, and what the first copy says.
use Rattle.std.proofs.Common.{◌≡◌, inl, inr, ℕ, suc, ◌<◌, ◌≤◌, Bool, true, false, cond, List, [], ◌∷◌, map, refl, sym, ap, ◌∙◌, Option, Some, None, arith}
use Rattle.std.specs.Option.{option_or, option_map, option_and_then}
use Rattle.std.proofs.lemmas.Bool.{cond_both}
use Rattle.std.proofs.lemmas.Option.{same_Some, none-some}
use Rattle.asm_formats.specs.Among.{IsAmong}
use Rattle.asm_placement.specs.Copies.{Copy}
use Rattle.asm_placement.specs.Rebalancing.{first_of, option_when}
use Rattle.asm_placement.specs.Work.{count}

-- where what passes afterwards passed before, the count doesn't rise
pub count_map_le : (t u : Copy → Bool) (g : Copy → Copy) (xs : List Copy) → ((y : Copy) → IsAmong xs y → u (g y) ≡ true → t y ≡ true) → count u (map g xs) ≤ count t xs
count_map_le t u g [] h = omega arith
count_map_le t u g (x ∷ xs) h =
    let later : count u (map g xs) ≤ count t xs = count_map_le t u g xs (λ y k. h y (inr k)) in
    cond_both (u (g x)) (suc (count u (map g xs))) (count u (map g xs)) (λ (n : ℕ). n ≤ cond (t x) (suc (count t xs)) (count t xs))
    (λ yes. let tx : t x ≡ true = h x (inl refl) yes in rw tx (omega arith))
    (λ no. cond_both (t x) (suc (count t xs)) (count t xs) (λ (n : ℕ). count u (map g xs) ≤ n) (λ a. omega arith) (λ a. omega arith))

-- and falls where one that passed doesn't
pub count_map_lt : (t u : Copy → Bool) (g : Copy → Copy) (xs : List Copy) (x : Copy) → ((y : Copy) → IsAmong xs y → u (g y) ≡ true → t y ≡ true) → IsAmong xs x → t x ≡ true → u (g x) ≡ false
    → count u (map g xs) < count t xs
count_map_lt t u g [] x h k tx ux = absurd k
count_map_lt t u g (y ∷ xs) x h (inl e) tx ux =
    let later : count u (map g xs) ≤ count t xs = count_map_le t u g xs (λ z k. h z (inr k)) in
    let ty : t y ≡ true = ap t (sym e) ∙ tx in
    let uy : u (g y) ≡ false = ap (λ (z : Copy). u (g z)) (sym e) ∙ ux in
    rw (ty, uy) (omega arith)
count_map_lt t u g (y ∷ xs) x h (inr k) tx ux =
    let later : count u (map g xs) < count t xs = count_map_lt t u g xs x (λ z j. h z (inr j)) k tx ux in
    cond_both (u (g y)) (suc (count u (map g xs))) (count u (map g xs)) (λ (n : ℕ). n < cond (t y) (suc (count t xs)) (count t xs))
    (λ yes. let ty : t y ≡ true = h y (inl refl) yes in rw ty (omega arith))
    (λ no. cond_both (t y) (suc (count t xs)) (count t xs) (λ (n : ℕ). count u (map g xs) < n) (λ a. omega arith) (λ a. omega arith))

map_same : (xs : List Copy) → map (λ (y : Copy). y) xs ≡ xs
map_same [] = refl
map_same (x ∷ xs) = ap (λ (l : List Copy). x ∷ l) (map_same xs)

-- the same where the copies themselves stay
pub count_le : (t u : Copy → Bool) (xs : List Copy) → ((y : Copy) → u y ≡ true → t y ≡ true) → count u xs ≤ count t xs
count_le t u xs h = omega (arith, count_map_le t u (λ y. y) xs (λ y k e. h y e), ap (count u) (map_same xs))

pub count_lt : (t u : Copy → Bool) (xs : List Copy) (x : Copy) → ((y : Copy) → u y ≡ true → t y ≡ true) → IsAmong xs x → t x ≡ true → u x ≡ false → count u xs < count t xs
count_lt t u xs x h k tx ux = omega (arith, count_map_lt t u (λ y. y) xs x (λ y j e. h y e) k tx ux, ap (count u) (map_same xs))

-- ---- what the first copy says

pub said_by : {A : Type 0} (says : Copy → Option A) (xs : List Copy) (a : A) → first_of says xs ≡ Some a → (x : Copy) × IsAmong xs x × (says x ≡ Some a)
said_by says [] a e = absurd (none-some a e)
said_by {A} says (x ∷ xs) a e = by (said_by says xs a) (says x) refl e
  where
    by : (first_of says xs ≡ Some a → (y : Copy) × IsAmong xs y × (says y ≡ Some a)) → (o : Option A) → says x ≡ o → option_or o (first_of says xs) ≡ Some a → (y : Copy) × IsAmong (x ∷ xs) y × (says y ≡ Some a)
    by later None is k = let p = later k in (p.0, inr p.1, p.2)
    by later (Some b) is k = (x, inl refl, is ∙ k)

pub when_said : {A : Type 0} (b : Bool) (o : Option A) (a : A) → option_when b o ≡ Some a → (b ≡ true) × (o ≡ Some a)
when_said true o a e = (refl, e)
when_said false o a e = absurd (none-some a e)

pub mapped : {A B : Type 0} (f : A → B) (o : Option A) (b : B) → option_map f o ≡ Some b → (a : A) × (o ≡ Some a) × (f a ≡ b)
mapped f None b e = absurd (none-some b e)
mapped f (Some a) b e = (a, refl, same_Some (f a) b e)

pub followed : {A B : Type 0} (f : A → Option B) (o : Option A) (b : B) → option_and_then f o ≡ Some b → (a : A) × (o ≡ Some a) × (f a ≡ Some b)
followed f None b e = absurd (none-some b e)
followed f (Some a) b e = (a, refl, e)
