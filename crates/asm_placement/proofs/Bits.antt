-- Sets of numbers, bit by bit.
use Rattle.std.proofs.Common.{◌≡◌, inl, inr, ℕ, zero, suc, ◌+◌, ◌^◌, ◌<◌, ◌≤◌, Bool, true, false, eqb, List, [], ◌∷◌, filter, refl, sym, ap, subst, ◌∙◌, arith}
use Rattle.std.specs.Prelude.{◌||◌, bit_or}
use Rattle.std.specs.Int.{bit_at}
use Rattle.std.specs.List.{range_with_len}
use Rattle.std.proofs.lemmas.Bool.{cases_eq, cond_both, eq-eqb, ne_eqb, or_right, or_left}
use Rattle.std.proofs.lemmas.Nat.Bits.{bit_at_or, bit_at-pow_same, bit_at-pow_other, bit_at-zero, bit_at-lt}
use Rattle.asm_formats.specs.Sets.{has_bit}
use Rattle.asm_formats.specs.Status.{Entry}
use Rattle.asm_placement.specs.DiskSets.{is_among, with_bit, set_of}
use Rattle.asm_placement.specs.Partners.{partners, are_partners, partner_set}

pub with_bit_is : (set n k : ℕ) → has_bit (with_bit set n) k ≡ (eqb n k || has_bit set k)
unfolding has_bit with_bit
with_bit_is set n k = elim (cases_eq n k) [
  | inl same ↦
      let one : bit_at (2 ^ n) k ≡ 1 = subst (λ (m : ℕ). bit_at (2 ^ n) m ≡ 1) same (bit_at-pow_same n) in
      rw (eq-eqb n k same) (eq-eqb (bit_at (bit_or set (2 ^ n)) k) 1 (bit_at_or set (2 ^ n) k ∙ omega (arith, one, bit_at-lt set k)))
  | inr other ↦
      let none : bit_at (2 ^ n) k ≡ 0 = bit_at-pow_other n k (λ e. other (sym e)) in
      let same : bit_at (bit_or set (2 ^ n)) k ≡ bit_at set k = bit_at_or set (2 ^ n) k ∙ omega (arith, none) in
      rw (ne_eqb n k other, same) refl
]

empty_is : (k : ℕ) → has_bit 0 k ≡ false
unfolding has_bit
empty_is k = ne_eqb (bit_at 0 k) 1 (λ e. omega (arith, e, bit_at-zero k))

-- the set of a list's numbers has these
pub set_of_is : (ns : List ℕ) (k : ℕ) → has_bit (set_of ns) k ≡ is_among ns k
set_of_is [] k = empty_is k
set_of_is (n ∷ ns) k = with_bit_is (set_of ns) n k ∙ ap (λ (b : Bool). eqb n k || b) (set_of_is ns k)

-- ---- a range's numbers that pass a test

pub kept_is : (test : ℕ → Bool) (ns : List ℕ) (k : ℕ) → test k ≡ true → is_among (filter test ns) k ≡ is_among ns k
kept_is test [] k pass = refl
kept_is test (n ∷ ns) k pass = cond_both (test n) (n ∷ filter test ns) (filter test ns) (λ (l : List ℕ). is_among l k ≡ (eqb n k || is_among ns k))
    (λ yes. ap (λ (b : Bool). eqb n k || b) (kept_is test ns k pass))
    (λ no. elim (cases_eq n k) [
      | inl same ↦ absurd (false_true (sym no ∙ ap test same ∙ pass))
      | inr other ↦ rw (ne_eqb n k other) (kept_is test ns k pass)
    ])
  where
    false_true : false ≡ true → ⊥
    false_true e = absurd cc

pub left_out : (test : ℕ → Bool) (ns : List ℕ) (k : ℕ) → test k ≡ false → is_among (filter test ns) k ≡ false
left_out test [] k out = refl
left_out test (n ∷ ns) k out = cond_both (test n) (n ∷ filter test ns) (filter test ns) (λ (l : List ℕ). is_among l k ≡ false)
    (λ yes. elim (cases_eq n k) [
      | inl same ↦ absurd (false_true (sym out ∙ ap test (sym same) ∙ yes))
      | inr other ↦ rw (ne_eqb n k other) (left_out test ns k out)
    ])
    (λ no. left_out test ns k out)
  where
    false_true : false ≡ true → ⊥
    false_true e = absurd cc

pub in_range : (n a k : ℕ) → a ≤ k → k < a + n → is_among (range_with_len a n) k ≡ true
in_range zero a k le lt = absurd (omega arith)
in_range (suc n) a k le lt = elim (cases_eq a k) [
  | inl same ↦ or_left (eqb a k) _ (eq-eqb a k same)
  | inr other ↦ or_right (eqb a k) _ (in_range n (a + 1) k (omega arith) (omega arith))
]

pub passing_is : (test : ℕ → Bool) (k : ℕ) → k < 64 → has_bit (set_of (filter test (range_with_len 0 64))) k ≡ test k
passing_is test k lt = set_of_is (filter test (range_with_len 0 64)) k ∙ by (test k) refl
  where
    by : (b : Bool) → test k ≡ b → is_among (filter test (range_with_len 0 64)) k ≡ test k
    by true e = kept_is test (range_with_len 0 64) k e ∙ in_range 64 0 k (omega arith) (omega arith) ∙ sym e
    by false e = left_out test (range_with_len 0 64) k e ∙ sym e

pub partner_sets : (entries : List Entry) (d k : ℕ) → k < 64 → has_bit (partner_set entries d) k ≡ are_partners (partners entries) d k
unfolding partner_set
partner_sets entries d k lt = passing_is (are_partners (partners entries) d) k lt
