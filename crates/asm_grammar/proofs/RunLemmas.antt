-- Runs of bytes as parts of a text.
use Rattle.std.proofs.Common.{◌≡◌, ◌≢◌, ℕ, suc, ◌≤◌, Bool, true, false, ◌&&◌, List, [], ◌∷◌, length, map, take, drop, refl, ap, inl, inr, arith}
use Rattle.std.specs.Prelude.{◌==◌}
use Rattle.asm_grammar.specs.Bytes.{upper, run_of, after_run, common}
use Rattle.asm_grammar.specs.Word.{same_bytes}
use Rattle.asm_grammar.proofs.Tests.{is_true_or_false}
use Rattle.asm_grammar.proofs.Consumes.{run_and_rest}

pub take_run : (test : ℕ → Bool) (text : List ℕ) → take (length (run_of test text)) text ≡ run_of test text
take_run test [] = refl
take_run test (b ∷ text) = elim (is_true_or_false (test b)) [
  | inl h ↦ rw h (ap (λ t. b ∷ t) (take_run test text))
  | inr h ↦ rw h refl
]

pub drop_run : (test : ℕ → Bool) (text : List ℕ) → drop (length (run_of test text)) text ≡ after_run test text
drop_run test [] = refl
drop_run test (b ∷ text) = elim (is_true_or_false (test b)) [
  | inl h ↦ rw h (drop_run test text)
  | inr h ↦ rw h refl
]

pub run_short : (test : ℕ → Bool) (text : List ℕ) → length (run_of test text) ≤ length text
run_short test text = omega (arith, run_and_rest test text)

and_false : (b : Bool) → (b && false) ≡ false
and_false true = refl
and_false false = refl

pub other_length : (xs ys : List ℕ) → length xs ≢ length ys → same_bytes (map upper xs) ys ≡ false
other_length [] [] n = absurd (n refl)
other_length [] (y ∷ ys) n = refl
other_length (x ∷ xs) [] n = refl
other_length (x ∷ xs) (y ∷ ys) n = rw (other_length xs ys (λ e. n (ap suc e))) (and_false (upper x == y))

pub common_nothing : (xs : List ℕ) → common xs [] ≡ 0
common_nothing [] = refl
common_nothing (x ∷ xs) = refl
