-- A pattern is matched star by star, each where it comes first.
use Rattle.std.proofs.Common.{◌≡◌, ℕ, ◌+◌, ◌<◌, ◌≤◌, Bool, true, false, inl, inr, [], ◌∷◌, length, take, drop, ◌-◌, refl, sym, ap, ◌∙◌, arith}
use Rattle.std.specs.Prelude.{◌||◌, ◌==◌}
use Rattle.std.specs.Int.{is_in_range}
use Rattle.std.proofs.lemmas.Bool.{cases_Bool, or_cases, and_parts, both_ways, leb-true, ne_eqb}
use Rattle.std.proofs.lemmas.List.{length-map, take_all}
use Rattle.asm_group.specs.Names.{Bytes, folded, folded_byte}
use Rattle.asm_world.specs.Listings.{matches}
use Rattle.verb_paths.specs.Patterns.{Meeting, Differs, SameName, Star, meet, matches_from}

or_right : (a b : Bool) → b ≡ true → (a || b) ≡ true
or_right true b e = refl
or_right false b e = e

or_left : (a b : Bool) → a ≡ true → (a || b) ≡ true
or_left true b e = refl
or_left false b e = cc

-- ---- from some byte on

-- what matches the whole name matches from its front
here : (p n : Bytes) → matches p n ≡ true → matches_from p n ≡ true
here p [] e = or_left (matches p []) false e
here p (b ∷ n) e = or_left (matches p (b ∷ n)) (matches_from p n) e

-- two stars are as one
star_star : (q : ℕ) (p n : Bytes) → (q == 42) ≡ true → matches_from (q ∷ p) n ≡ true → matches_from p n ≡ true
star_star q p [] star e = elim (or_cases (matches (q ∷ p) []) false e) [ inl h ↦ rw star at h | inr h ↦ absurd cc ]
star_star q p (b ∷ n) star e = elim (or_cases (matches (q ∷ p) (b ∷ n)) (matches_from (q ∷ p) n) e) [
  | inl h ↦ rw star at h
  | inr h ↦ or_right (matches p (b ∷ n)) (matches_from p n) (star_star q p n star h)
]

-- a byte of the pattern takes a byte of the name
byte_taken : (q : ℕ) (p : Bytes) (b : ℕ) (n : Bytes) → (q == 42) ≡ false → matches_from (q ∷ p) (b ∷ n) ≡ true → matches_from p n ≡ true
byte_taken q p b [] other e = elim (or_cases (matches (q ∷ p) (b ∷ [])) (matches_from (q ∷ p) []) e) [
  | inl h ↦ here p [] (and_parts (q == b) (matches p []) (rw other at h)).1
  | inr h ↦ absurd (let k = rw other at h in cc)
]
byte_taken q p b (c ∷ n) other e = elim (or_cases (matches (q ∷ p) (b ∷ c ∷ n)) (matches_from (q ∷ p) (c ∷ n)) e) [
  | inl h ↦ here p (c ∷ n) (and_parts (q == b) (matches p (c ∷ n)) (rw other at h)).1
  | inr h ↦ or_right (matches p (c ∷ n)) (matches_from p n) (byte_taken q p c n other h)
]

-- ---- up to a star

abbrev verdict : Meeting → Bool
verdict Differs = false
verdict SameName = true
verdict (Star p n) = matches_from p n

-- a pattern matches by how it meets the front
pub matches_is : (p n : Bytes) → matches p n ≡ verdict (meet p n)
matches_is [] [] = refl
matches_is [] (b ∷ n) = ne_eqb (length (b ∷ n)) 0 (λ e. omega arith)
matches_is (q ∷ p) [] = elim (cases_Bool (q == 42)) [ inl star ↦ rw star refl | inr other ↦ rw other refl ]
matches_is (q ∷ p) (b ∷ n) = elim (cases_Bool (q == 42)) [
  | inl star ↦ rw star refl
  | inr other ↦ rw other (elim (cases_Bool (q == b)) [ inl same ↦ rw same (matches_is p n) | inr differs ↦ rw differs refl ])
]

star_taken : (p n p' n' : Bytes) → meet p n ≡ Star p' n' → matches_from p n ≡ true → matches_from p' n' ≡ true
star_taken [] [] p' n' e f = absurd cc
star_taken [] (b ∷ n) p' n' e f = absurd cc
star_taken (q ∷ p) [] p' n' e f = elim (cases_Bool (q == 42)) [
  | inl star ↦ sym (ap verdict (rw star at e)) ∙ star_star q p [] star f
  | inr other ↦ absurd (let k = rw other at e in cc)
]
star_taken (q ∷ p) (b ∷ n) p' n' e f = elim (cases_Bool (q == 42)) [
  | inl star ↦ sym (ap verdict (rw star at e)) ∙ star_star q p (b ∷ n) star f
  | inr other ↦ elim (cases_Bool (q == b)) [
    | inl same ↦ star_taken p n p' n' (rw (other, same) at e) (byte_taken q p b n other f)
    | inr differs ↦ absurd (let k = rw (other, differs) at e in cc)
  ]
]

-- the star takes the first place, since that leaves the most
pub first_place : (p n p' n' : Bytes) → meet p n ≡ Star p' n' → matches_from p' n' ≡ matches_from p n
first_place p n p' n' e = elim (cases_Bool (matches_from p' n')) [
  | inl f ↦ f ∙ sym (here p n (matches_is p n ∙ (ap verdict e ∙ f)))
  | inr f ↦ elim (cases_Bool (matches_from p n)) [
    | inl g ↦ absurd (both_ways (matches_from p' n') f (star_taken p n p' n' e g))
    | inr g ↦ f ∙ sym g
  ]
]

pub same_here : (p n : Bytes) → meet p n ≡ SameName → matches_from p n ≡ true
same_here p n e = here p n (matches_is p n ∙ ap verdict e)

-- ---- folded bytes

-- no letter is folded to a star
pub star_folds : (b : ℕ) → (folded_byte b == 42) ≡ (b == 42)
star_folds b = elim (cases_Bool (is_in_range 65 90 b)) [
  | inl letter ↦
      let from : 65 < b + 1 = omega (arith, leb-true 65 b (and_parts _ _ letter).0) in
      rw (letter, ne_eqb (b + 32) 42 (λ e. omega arith), ne_eqb b 42 (λ e. omega arith)) refl
  | inr other ↦ rw other refl
]

abbrev size : Meeting → ℕ
size Differs = 0
size SameName = 0
size (Star p n) = length p + length n + 1

-- what is left at a star is shorter
meeting_size : (p n : Bytes) → size (meet p n) ≤ length p + length n
meeting_size [] [] = omega arith
meeting_size [] (b ∷ n) = omega arith
meeting_size (q ∷ p) [] = elim (cases_Bool (q == 42)) [ inl star ↦ rw star (omega arith) | inr other ↦ rw other (omega arith) ]
meeting_size (q ∷ p) (b ∷ n) = elim (cases_Bool (q == 42)) [
  | inl star ↦ rw star (omega arith)
  | inr other ↦ rw other (elim (cases_Bool (q == b)) [ inl same ↦ rw same (omega (arith, meeting_size p n)) | inr differs ↦ rw differs (omega arith) ])
]

pub shorter : (p n p' n' : Bytes) → Star (folded p') (folded n') ≡ meet (folded p) (folded n) → length p' + length n' < length p + length n
shorter p n p' n' e =
    let k : size (Star (folded p') (folded n')) ≡ size (meet (folded p) (folded n)) = ap size e in
    omega (arith, k, meeting_size (folded p) (folded n), length-map p folded_byte, length-map n folded_byte, length-map p' folded_byte, length-map n' folded_byte)

-- they differ here, so the pattern matches only behind the first byte
pub next_place : (p n : Bytes) → 1 ≤ length n → Differs ≡ meet (folded p) (folded n) → matches_from (folded p) (folded (take (length n - 1) (drop 1 n))) ≡ matches_from (folded p) (folded n)
next_place p [] some e = absurd (omega arith)
next_place p (b ∷ n) some e =
    let none : matches (folded p) (folded (b ∷ n)) ≡ false = matches_is (folded p) (folded (b ∷ n)) ∙ ap verdict (sym e) in
    let rest : take (length (b ∷ n) - 1) n ≡ n = take_all (length (b ∷ n) - 1) n (omega arith) in
    rw (rest, none) refl

pub no_place : (p n : Bytes) → length n < 1 → Differs ≡ meet (folded p) (folded n) → matches_from (folded p) (folded n) ≡ false
no_place p [] few e = let none : matches (folded p) [] ≡ false = matches_is (folded p) [] ∙ ap verdict (sym e) in rw none refl
no_place p (b ∷ n) few e = absurd (omega arith)
