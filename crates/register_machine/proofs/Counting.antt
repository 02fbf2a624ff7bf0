-- Majorities of one list.
use Rattle.std.proofs.Common.{◌≡◌, ◌⊎◌, inl, inr, ⊎_elim, ℕ, suc, ◌+◌, ◌*◌, ◌≤◌, Bool, true, false, cond, List, [], ◌∷◌, length, filter, refl, arith}
use Rattle.std.specs.List.{list_all}
use Rattle.std.proofs.lemmas.Bool.{and_from, and_parts, both_ways, cases_Bool, lt-ltb, ltb-true}
use Rattle.asm_formats.specs.Among.{IsAmong}
use Rattle.asm_formats.specs.Status.{Status}
use Rattle.asm_formats.specs.Following.{Holder, sets, most_pass}
use Rattle.asm_formats.proofs.Among.{all_among}
use Rattle.register_machine.specs.Disks.{is_enough}

-- ---- a test that more pass

cell_grows : {A : Type 0} (b c : Bool) (x : A) (ps qs : List A) → length ps ≤ length qs → (b ≡ true → c ≡ true) → length (cond b (x ∷ ps) ps) ≤ length (cond c (x ∷ qs) qs)
cell_grows true true x ps qs le more = omega arith
cell_grows true false x ps qs le more = absurd (both_ways false refl (more refl))
cell_grows false true x ps qs le more = omega arith
cell_grows false false x ps qs le more = le

filter_grows : {A : Type 0} (p q : A → Bool) (xs : List A) → ((x : A) → p x ≡ true → q x ≡ true) → length (filter p xs) ≤ length (filter q xs)
filter_grows p q [] more = omega arith
filter_grows p q (x ∷ xs) more = cell_grows (p x) (q x) x (filter p xs) (filter q xs) (filter_grows p q xs more) (more x)

pub majority_grows : (p q : Holder → Bool) (set : List Holder) → ((d : Holder) → p d ≡ true → q d ≡ true) → most_pass p set ≡ true → most_pass q set ≡ true
majority_grows p q set more h = lt-ltb (length set) (2 * length (filter q set)) (omega (arith, ltb-true (length set) (2 * length (filter p set)) h, filter_grows p q set more))

all_grow : {A : Type 0} (t u : A → Bool) (xs : List A) → ((x : A) → t x ≡ true → u x ≡ true) → list_all t xs ≡ true → list_all u xs ≡ true
all_grow t u [] more h = refl
all_grow t u (x ∷ xs) more h = let p = and_parts (t x) (list_all t xs) h in and_from (u x) (list_all u xs) (more x p.0) (all_grow t u xs more p.1)

pub enough_grows : (p q : Holder → Bool) (r : Status) → ((d : Holder) → p d ≡ true → q d ≡ true) → is_enough p r ≡ true → is_enough q r ≡ true
enough_grows p q r more h = all_grow (most_pass p) (most_pass q) (sets r) (λ set. majority_grows p q set more) h

pub majority_of : (p : Holder → Bool) (r : Status) (set : List Holder) → is_enough p r ≡ true → IsAmong (sets r) set → most_pass p set ≡ true
majority_of p r set h among = all_among (most_pass p) (sets r) set h among

-- ---- two majorities meet

-- an element passes both tests
abbrev pub Meets : {A : Type 0} → (A → Bool) → (A → Bool) → List A → Type 0
Meets {A} p q xs = (x : A) × IsAmong xs x × (p x ≡ true) × (q x ≡ true)

cell_counts : {A : Type 0} (b c : Bool) (x : A) (ps qs : List A) (n : ℕ) → length ps + length qs ≤ n → (b ≡ true → c ≡ true → ⊥) → length (cond b (x ∷ ps) ps) + length (cond c (x ∷ qs) qs) ≤ suc n
cell_counts true true x ps qs n le apart = absurd (apart refl refl)
cell_counts true false x ps qs n le apart = omega arith
cell_counts false true x ps qs n le apart = omega arith
cell_counts false false x ps qs n le apart = omega arith

meet : {A : Type 0} (p q : A → Bool) (xs : List A) → Meets p q xs ⊎ (length (filter p xs) + length (filter q xs) ≤ length xs)
meet p q [] = inr (omega arith)
meet {A} p q (x ∷ xs) = ⊎_elim
    (λ m. inl (m.0, inr m.1, m.2, m.3))
    (λ le. ⊎_elim
    (λ yes. ⊎_elim (λ also. inl (x, inl refl, yes, also))
    (λ no. inr (cell_counts (p x) (q x) x (filter p xs) (filter q xs) (length xs) le (λ a b. both_ways (q x) no b))) (cases_Bool (q x)))
    (λ no. inr (cell_counts (p x) (q x) x (filter p xs) (filter q xs) (length xs) le (λ a b. both_ways (p x) no a))) (cases_Bool (p x)))
    (meet p q xs)

pub majorities_meet : (p q : Holder → Bool) (set : List Holder) → most_pass p set ≡ true → most_pass q set ≡ true → Meets p q set
majorities_meet p q set a b = ⊎_elim (λ m. m)
    (λ le. absurd (omega (arith, ltb-true (length set) (2 * length (filter p set)) a, ltb-true (length set) (2 * length (filter q set)) b, le)))
    (meet p q set)
