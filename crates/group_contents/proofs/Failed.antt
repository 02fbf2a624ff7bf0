-- The disks of two sets.
use Rattle.std.proofs.Common.{◌≡◌, ◌⊎◌, inl, inr, ℕ, true, arith}
use Rattle.std.specs.Prelude.{bit_or}
use Rattle.std.specs.Int.{bit_at}
use Rattle.std.proofs.lemmas.Bool.{cases_eq, eq-eqb, eqb-true}
use Rattle.std.proofs.lemmas.Nat.Bits.{bit_at-lt, bit_at_or}
use Rattle.asm_formats.specs.Sets.{has_bit}

-- a disk of both sets together is in one of them
pub joined_bits : (a b k : ℕ) → has_bit (bit_or a b) k ≡ true → (has_bit a k ≡ true) ⊎ (has_bit b k ≡ true)
unfolding has_bit
joined_bits a b k is = elim (cases_eq (bit_at a k) 1) [
  | inl one ↦ inl (eq-eqb (bit_at a k) 1 one)
  | inr none ↦ inr (eq-eqb (bit_at b k) 1 (omega (arith, eqb-true (bit_at (bit_or a b) k) 1 is, bit_at_or a b k, bit_at-lt a k, bit_at-lt b k, none)))
]
