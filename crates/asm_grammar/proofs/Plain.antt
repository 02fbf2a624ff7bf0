-- The kinds of words of verbs, by stages and in plain words.
use Rattle.std.proofs.Common.{◌≡◌, ℕ, suc, ◌+◌, ◌-◌, ◌*◌, ◌^◌, ◌<◌, ◌≤◌, Bool, true, false, ◌&&◌, not, nat_lt, nat_le, inl, inr, List, [], ◌∷◌, length, refl, sym, ap, ◌∙◌, Option, None, arith}
use Rattle.std.specs.Prelude.{◌==◌, if◌then◌else◌}
use Rattle.std.specs.List.{list_all}
use Rattle.std.proofs.lemmas.Bool.{leb-true, le-leb, ltb-true, ltb-false, lt-ltb}
use Rattle.asm_grammar.specs.Bytes.{is_word, is_letter_byte, is_digit_byte}
use Rattle.asm_grammar.specs.Argument.{PlainNumber, Sized, Stage, NameStart, Letters, Digits, SizeDigits, onward, reached, accepts, said_at, spelt_number, argument_of, factor}
use Rattle.asm_grammar.specs.Word.{below, digits_after, size_after, unit_after, number_of_text, size_of_text, is_name_word}
use Rattle.asm_grammar.proofs.Tests.{is_true_or_false}
use Rattle.asm_grammar.proofs.Nearest.{digit_small}
use Rattle.asm_grammar.proofs.Readers.{too_great}
use Rattle.asm_grammar.proofs.Sizes.{size_great, digit_no_factor}

-- NUMBERS

abbrev said_number : Option Stage → Option ℕ
said_number o = onward None (λ s. said_at (λ t. spelt_number t) s) o

from_digits : (n : ℕ) (bytes : List ℕ) → n < 2 ^ 64 → said_number (reached (Digits n) bytes) ≡ below (2 ^ 64) (digits_after n bytes)
from_digits n [] l = rw (lt-ltb n (2 ^ 64) l) refl
from_digits n (b ∷ bytes) l = elim (is_true_or_false (is_digit_byte b)) [
  | inr d ↦ rw d refl
  | inl d ↦
      let m : ℕ = n * 10 + (b - 48) in
      elim (is_true_or_false (nat_lt m (2 ^ 64))) [
        | inl k ↦ rw (d, k) (from_digits m bytes (ltb-true m (2 ^ 64) k))
        | inr k ↦ rw (d, k) (sym (too_great (2 ^ 64) m bytes (ltb-false m (2 ^ 64) k)))
      ]
]

pub number_is_number : (bytes : List ℕ) → argument_of PlainNumber bytes ≡ number_of_text bytes
number_is_number [] = refl
number_is_number (b ∷ bytes) = elim (is_true_or_false (is_digit_byte b)) [
  | inr d ↦ rw d refl
  | inl d ↦
      (let s = digit_small b d in
      let z : b - 48 ≡ 0 * 10 + (b - 48) = omega arith in
      rw d (from_digits (b - 48) bytes (omega arith) ∙ ap (λ m. below (2 ^ 64) (digits_after m bytes)) z))
]

-- SIZES

from_unit : (n b : ℕ) (bytes : List ℕ) → is_digit_byte b ≡ false → said_number (reached (SizeDigits n) (b ∷ bytes)) ≡ below (2 ^ 64) (unit_after n b bytes)
from_unit n b [] d = elim (is_true_or_false (factor b == 0)) [
  | inl z ↦ rw (d, z) refl
  | inr z ↦ (elim (is_true_or_false (nat_lt (n * factor b) (2 ^ 64))) [
    | inl k ↦ rw (d, z, k) refl
    | inr k ↦ rw (d, z, k) refl
  ])
]
from_unit n b (c ∷ bytes) d = elim (is_true_or_false (not (factor b == 0) && nat_lt (n * factor b) (2 ^ 64))) [
  | inl k ↦ rw (d, k) refl
  | inr k ↦ rw (d, k) refl
]

from_sizes : (n : ℕ) (bytes : List ℕ) → n < 2 ^ 64 → said_number (reached (SizeDigits n) bytes) ≡ below (2 ^ 64) (size_after n bytes)
from_sizes n [] l = rw (lt-ltb n (2 ^ 64) l) refl
from_sizes n (b ∷ bytes) l = elim (is_true_or_false (is_digit_byte b)) [
  | inr d ↦ (let f = from_unit n b bytes d in f ∙ ap (below (2 ^ 64)) (ap (λ x. if x then size_after (n * 10 + (b - 48)) bytes else unit_after n b bytes) (sym d)))
  | inl d ↦
      let m : ℕ = n * 10 + (b - 48) in
      elim (is_true_or_false (nat_lt m (2 ^ 64))) [
        | inl k ↦ rw (d, k) (from_sizes m bytes (ltb-true m (2 ^ 64) k))
        | inr k ↦ rw (d, k, digit_no_factor b d) (sym (size_great (2 ^ 64) m bytes (ltb-false m (2 ^ 64) k)))
      ]
]

pub size_is_size : (bytes : List ℕ) → argument_of Sized bytes ≡ size_of_text bytes
size_is_size [] = refl
size_is_size (b ∷ bytes) = elim (is_true_or_false (is_digit_byte b)) [
  | inr d ↦ rw d refl
  | inl d ↦
      (let s = digit_small b d in
      let z : b - 48 ≡ 0 * 10 + (b - 48) = omega arith in
      rw d (from_sizes (b - 48) bytes (omega arith) ∙ ap (λ m. below (2 ^ 64) (size_after m bytes)) z))
]

-- NAMES

and_false : (b : Bool) → (b && false) ≡ false
and_false true = refl
and_false false = refl

too_long : (n : ℕ) → 30 < n → nat_le n 30 ≡ false
too_long n l = elim (is_true_or_false (nat_le n 30)) [
  | inl h ↦ absurd (let k = leb-true n 30 h in omega arith)
  | inr h ↦ h
]

from_letters : (n : ℕ) (bytes : List ℕ) → n ≤ 30 → accepts (Letters n) bytes ≡ (nat_le (n + length bytes) 30 && list_all is_word bytes)
from_letters n [] l = rw (le-leb (n + 0) 30 (omega arith)) refl
from_letters n (b ∷ bytes) l = elim (is_true_or_false (is_word b)) [
  | inr w ↦ rw w (sym (and_false (nat_le (n + suc (length bytes)) 30)))
  | inl w ↦ (elim (is_true_or_false (nat_lt n 30)) [
    | inl k ↦
        (let m = ltb-true n 30 k in
        let e : n + 1 + length bytes ≡ n + suc (length bytes) = omega arith in
        rw (w, k) (from_letters (n + 1) bytes (omega arith) ∙ ap (λ x. nat_le x 30 && list_all is_word bytes) e))
    | inr k ↦
        (let m = ltb-false n 30 k in
        let f : nat_le (n + suc (length bytes)) 30 ≡ false = too_long (n + suc (length bytes)) (omega arith) in
        rw (w, k, f) refl)
  ])
]

pub name_is_name : (bytes : List ℕ) → accepts NameStart bytes ≡ (is_name_word bytes && list_all is_word bytes)
name_is_name [] = refl
name_is_name (b ∷ bytes) = elim (is_true_or_false (is_letter_byte b)) [
  | inr d ↦ rw d refl
  | inl d ↦
      (let e : 1 + length bytes ≡ suc (length bytes) = omega arith in
      rw d (from_letters 1 bytes (omega arith) ∙ ap (λ x. nat_le x 30 && list_all is_word bytes) e))
]
