-- The end of a text.
use Rattle.std.proofs.Common.{◌≡◌, ℕ, ◌+◌, ◌-◌, ◌≤◌, min, inl, inr, List, [], ◌∷◌, length, ap, Some, arith}
use Rattle.std.specs.Prelude.{Ok, Err, ◌==◌}
use Rattle.asm_grammar.specs.Bytes.{is_blank, after_run}
use Rattle.asm_grammar.specs.Word.{Word, Mark, fit, near, mark_of, near_mark}
use Rattle.asm_grammar.specs.Syntax.{SyntaxRule, Value}
use Rattle.asm_grammar.specs.Reading.{Outcome, Took, Failed, mapped, parse, ends, close, ended_by_word, finish, result_of}
use Rattle.asm_grammar.proofs.Outcomes.{chosen}
use Rattle.asm_grammar.proofs.Consumes.{run_and_rest, some_pair}
use Rattle.asm_grammar.proofs.Tests.{is_true_or_false}
use Rattle.asm_grammar.proofs.Farthest.{final, final_mapped, falls_then, left_falls}

mark_exact_here : (m : ℕ) (text rest : List ℕ) → mark_of m text ≡ Some (tt, rest) → length text ≡ near_mark m text + length rest
mark_exact_here m [] rest e = cc
mark_exact_here m (b ∷ text) rest e = elim (chosen (b == m) _ _ _ e) [
  | inr p ↦ let q = p.1 in cc
  | inl p ↦ (let l : length text ≡ length rest = ap length (some_pair p.1).1 in rw p.0 (omega arith))
]

-- A mark that was read is what is near it.
pub mark_exact : (m : ℕ) (text rest : List ℕ) → fit (Mark m) text ≡ Some (tt, rest) → length text - near (Mark m) text ≡ length rest
mark_exact m text rest e = omega (arith, mark_exact_here m (after_run is_blank text) rest e, run_and_rest is_blank text)

pub finish_ok : {A B : Type 0} (says : A → B) (last : Word) (len : ℕ) (o : Outcome A) (x : B) (rest : List ℕ) (left : ℕ)
    → mapped says (ended_by_word last o) ≡ Took x rest left → result_of says (finish last len o) ≡ Ok x
finish_ok says last len (Failed l) x rest left e = cc
finish_ok says last len (Took v r l) x rest left e = elim (is_true_or_false (ends last r)) [
  | inl h ↦ (let k = rw h at e in rw h (let q : says v ≡ x = cc in ap (λ z. Ok z) q))
  | inr h ↦ absurd (let k = rw h at e in cc)
]

pub finish_err : {A B : Type 0} (says : A → B) (last : Word) (len : ℕ) (o : Outcome A) (left : ℕ)
    → mapped says (ended_by_word last o) ≡ Failed left → result_of says (finish last len o) ≡ Err (len - left)
finish_err says last len (Failed l) left e = let q : l ≡ left = cc in ap (λ z. Err (len - z)) q
finish_err says last len (Took v r l) left e = elim (is_true_or_false (ends last r)) [
  | inl h ↦ absurd (let k = rw h at e in cc)
  | inr h ↦ (let k = rw h at e in rw h (let q : min l (length r - near last r) ≡ left = cc in ap (λ z. Err (len - z)) q))
]

close_falls : (last : Word) (rest : List ℕ) (left : ℕ) → final (close last rest left) ≤ left
close_falls last rest left = elim (is_true_or_false (ends last rest)) [ inl h ↦ rw h (omega arith) | inr h ↦ rw h (omega arith) ]

pub failed_falls : {B : Type 0} (g : SyntaxRule) (says : Value g → B) (last : Word) (text : List ℕ) (first left : ℕ)
    → mapped says (ended_by_word last (parse g text first)) ≡ Failed left → left ≤ first
failed_falls g says last text first left e =
    let a = final_mapped says (ended_by_word last (parse g text first)) in
    let b = falls_then (parse g text first) (λ v rest l. mapped (λ u. v) (close last rest l)) (λ v rest l. rw (final_mapped (λ u. v) (close last rest l)) (close_falls last rest l)) in
    let c = left_falls g text first in
    let d : final (mapped says (ended_by_word last (parse g text first))) ≡ left = ap (λ o. final o) e in
    omega arith
