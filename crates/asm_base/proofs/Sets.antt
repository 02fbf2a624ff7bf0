-- Bits of a set of disk numbers after a number joins or leaves it.
use Rattle.std.proofs.Common.{◌≡◌, ℕ, zero, suc, ◌+◌, ◌-◌, ◌*◌, ◌/◌, ◌%◌, ◌^◌, ◌<◌, ◌≤◌, false, eqb, length, refl, sym, ap, ◌∙◌, add-one, arith, inl, inr}
use Rattle.std.specs.Prelude.{◌||◌, ◌&&◌, not, bit_and, bit_or, filter, count_ones}
use Rattle.std.specs.List.{range_with_len}
use Rattle.std.specs.Int.Count.{ones, ones_in}
use Rattle.asm_formats.specs.Sets.{has_bit, elements}
use Rattle.std.specs.Int.{w64, bit_at}
use Rattle.std.proofs.Math.Nat.{pow-le-pow_right, div-eq_of_lt, div-div-eq-div-mul, div-one, pow-suc, pow-succ'}
use Rattle.std.proofs.lemmas.Nat.{ones-le}
use Rattle.std.proofs.lemmas.Bool.{cases_eq, eq-eqb, ne_eqb}
use Rattle.std.proofs.lemmas.Nat.Bits.{bit_at_set_same, bit_at_set_other, bit_at_clear_same, bit_at_clear_other}

-- a number of 64 bits has no bit from 64 on
pub no_bit : (n k : ℕ) → n < 2 ^ 64 → 64 ≤ k → eqb (bit_at n k) 1 ≡ false
no_bit n k small past =
    let wide : 2 ^ 64 ≤ 2 ^ k = pow-le-pow_right {n = 2} (omega arith) {i = 64} {j = k} past in
    let none : n / 2 ^ k ≡ 0 = div-eq_of_lt (omega arith) in
    rw none refl

pub bit_with : (b n k : ℕ) → n < 64 → k < 64 → eqb (bit_at (bit_or b (1 * 2 ^ n % 2 ^ 64)) k) 1 ≡ (eqb k n || eqb (bit_at b k) 1)
bit_with b n k fits within = elim (cases_eq k n) [
  | inl same ↦ rw (same, bit_at_set_same w64 b n fits, eq-eqb n n refl) refl
  | inr other ↦ rw (bit_at_set_other w64 b n fits k other, ne_eqb k n other) refl
]

pub bit_without : (b n k : ℕ) → n < 64 → k < 64 → eqb (bit_at (bit_and b (18446744073709551615 - 1 * 2 ^ n % 2 ^ 64)) k) 1 ≡ (not (eqb k n) && eqb (bit_at b k) 1)
bit_without b n k fits within = elim (cases_eq k n) [
  | inl same ↦ rw (same, bit_at_clear_same w64 b n fits, eq-eqb n n refl) refl
  | inr other ↦ rw (bit_at_clear_other w64 b n fits k within other, ne_eqb k n other) refl
]

-- ---- how many bits there are

no_ones : (d : ℕ) → ones_in d 0 ≡ 0
unfolding ones_in
no_ones zero = refl
no_ones (suc d) = omega (arith, no_ones d)

half_lt : (d n : ℕ) → n < 2 ^ suc d → n / 2 < 2 ^ d
half_lt d n h = omega (arith, pow-succ' 2 d)

below_power : (n : ℕ) → n < 2 ^ n
below_power zero = omega arith
below_power (suc n) = omega (arith, below_power n, pow-succ' 2 n)

-- more digits than a number has make no difference
enough_digits : (d e n : ℕ) → n < 2 ^ d → n < 2 ^ e → ones_in d n ≡ ones_in e n
unfolding ones_in
enough_digits zero e n small also = let none : n ≡ 0 = omega arith in rw none (sym (no_ones e))
enough_digits (suc d) zero n small also = let none : n ≡ 0 = omega arith in rw none (no_ones (suc d))
enough_digits (suc d) (suc e) n small also = ap (λ (k : ℕ). n % 2 + k) (enough_digits d e (n / 2) (half_lt d n small) (half_lt e n also))

ones_from : (set k i : ℕ) → length (filter (has_bit set) (range_with_len i k)) ≡ ones_in k (set / 2 ^ i)
unfolding has_bit ones_in
ones_from set zero i = refl
ones_from set (suc k) i =
    let next : set / 2 ^ i / 2 ≡ set / 2 ^ (i + 1) = div-div-eq-div-mul set (2 ^ i) 2 ∙ ap (λ (p : ℕ). set / p) (rw add-one (sym (pow-suc 2 i))) in
    let rest : length (filter (has_bit set) (range_with_len (i + 1) k)) ≡ ones_in k (set / 2 ^ i / 2) = ones_from set k (i + 1) ∙ ap (ones_in k) (sym next) in
    elim (cases_eq (set / 2 ^ i % 2) 1) [
      | inl one ↦
          let more : suc (length (filter (has_bit set) (range_with_len (i + 1) k))) ≡ 1 + ones_in k (set / 2 ^ i / 2) = omega (arith, rest) in
          rw one more
      | inr other ↦
          let none : set / 2 ^ i % 2 ≡ 0 = omega (arith, other) in
          let same : length (filter (has_bit set) (range_with_len (i + 1) k)) ≡ 0 + ones_in k (set / 2 ^ i / 2) = omega (arith, rest) in
          rw none same
    ]

pub ones_are_elements : (set : ℕ) → set < 2 ^ 64 → count_ones set ≡ length (elements set)
unfolding elements count_ones ones_in
ones_are_elements set small = enough_digits set 64 set (below_power set) small ∙ sym (ones_from set 64 0 ∙ ap (ones_in 64) (div-one set))

pub few_ones : (set : ℕ) → set < 2 ^ 64 → count_ones set ≤ 64
few_ones set small = ones-le 64 set small
