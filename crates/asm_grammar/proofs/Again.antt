-- Reading any number of things, one at a time.
use Rattle.std.proofs.Common.{◌≡◌, ℕ, zero, suc, ◌≤◌, true, false, inl, inr, List, [], ◌∷◌, length, refl, ap, arith}
use Rattle.std.specs.Prelude.{if◌then◌else◌}
use Rattle.asm_grammar.specs.Word.{Word}
use Rattle.asm_grammar.specs.Syntax.{SyntaxRule, Many, Value}
use Rattle.asm_grammar.specs.Reading.{Outcome, Took, Failed, ◌>>=◌, mapped, repeated_while, parse, leads, miss, nullable, decides}
use Rattle.asm_grammar.specs.Reading.{first as heads}
use Rattle.asm_grammar.proofs.Tests.{is_true_or_false}
use Rattle.asm_grammar.proofs.Consumes.{shortens}
use Rattle.asm_grammar.proofs.Sound.{sound}

bind_same : {A B : Type 0} (o : Outcome A) (f h : A → List ℕ → ℕ → Outcome B) → ((v : A) (rest : List ℕ) (left : ℕ) → o ≡ Took v rest left → f v rest left ≡ h v rest left) → (o >>= f) ≡ (o >>= h)
bind_same (Took v rest left) f h each = each v rest left refl
bind_same (Failed left) f h each = refl

abbrev again : (a : SyntaxRule) → ℕ → List ℕ → ℕ → Outcome (List (Value a))
again a n text left = repeated_while n (λ r. leads a r) (λ r m. miss (heads a) r m) (λ r m. parse a r m) text left

-- How often it may be tried makes no difference, where that is as often as there are bytes.
any_number : (a : SyntaxRule) (follow : List Word) → decides a follow ≡ true → nullable a ≡ false
    → (n m : ℕ) (text : List ℕ) (left : ℕ) → length text ≤ n → length text ≤ m → leads a [] ≡ false → again a n text left ≡ again a m text left
any_number a follow d full zero zero text left p q e = refl
any_number a follow d full zero (suc m) [] left p q e = rw e refl
any_number a follow d full zero (suc m) (b ∷ text) left p q e = absurd (omega arith)
any_number a follow d full (suc n) zero [] left p q e = rw e refl
any_number a follow d full (suc n) zero (b ∷ text) left p q e = absurd (omega arith)
any_number a follow d full (suc n) (suc m) text left p q e = elim (is_true_or_false (leads a text)) [
  | inr l ↦ rw l refl
  | inl l ↦ rw l (bind_same (parse a text left) (λ v rest l. mapped (λ vs. v ∷ vs) (again a n rest l)) (λ v rest l. mapped (λ vs. v ∷ vs) (again a m rest l))
      (λ v rest l k.
      let s = shortens a follow v text rest full d (sound a text left v rest l k) in
      ap (λ o. mapped (λ vs. v ∷ vs) o) (any_number a follow d full n m rest l (omega arith) (omega arith) e)))
]

-- Another one, and others behind it, or none.
pub many_is : (a : SyntaxRule) (follow : List Word) → decides a follow ≡ true → nullable a ≡ false → leads a [] ≡ false → (text : List ℕ) (left : ℕ)
    → parse (Many a) text left ≡ (if leads a text then (parse a text left >>= λ v rest l. mapped (λ vs. v ∷ vs) (parse (Many a) rest l)) else Took [] text (miss (heads a) text left))
many_is a follow d full e [] left = rw e refl
many_is a follow d full e (b ∷ text) left = elim (is_true_or_false (leads a (b ∷ text))) [
  | inr l ↦ rw l refl
  | inl l ↦ rw l (bind_same (parse a (b ∷ text) left) (λ v rest l. mapped (λ vs. v ∷ vs) (again a (length text) rest l)) (λ v rest l. mapped (λ vs. v ∷ vs) (again a (length rest) rest l))
      (λ v rest l k.
      let s = shortens a follow v (b ∷ text) rest full d (sound a (b ∷ text) left v rest l k) in
      ap (λ o. mapped (λ vs. v ∷ vs) o) (any_number a follow d full (length text) (length rest) rest l (omega arith) (omega arith) e)))
]
