-- Whole texts.
use Rattle.std.proofs.Common.{◌≡◌, ◌↔◌, ℕ, ◌≤◌, true, false, inl, inr, List, [], ◌∷◌, length, refl, ap, subst, Option, Some, None}
use Rattle.std.specs.Prelude.{Ok, Err, is_some}
use Rattle.asm_grammar.specs.Bytes.{common}
use Rattle.asm_grammar.specs.Word.{Mark, fit, fits}
use Rattle.asm_grammar.specs.Syntax.{SyntaxRule, Value, Has}
use Rattle.asm_grammar.specs.Reading.{Outcome, Took, Failed, parse, decides, is_all, ends, finish, whole}
use Rattle.asm_grammar.specs.Laws.{IsText}
use Rattle.asm_grammar.proofs.Tests.{or_left}
use Rattle.asm_grammar.proofs.Outcomes.{chosen}
use Rattle.asm_grammar.proofs.Sound.{sound}
use Rattle.asm_grammar.proofs.Complete.{complete}
use Rattle.asm_grammar.proofs.Farthest.{no_further}

all_is : (m : ℕ) (o : Option (Unit {0} × List ℕ)) → is_all o ≡ true → o ≡ Some (tt, [])
all_is m None e = cc
all_is m (Some (u, [])) e = refl
all_is m (Some (u, b ∷ rest)) e = cc

is_text : (g : SyntaxRule) (m : ℕ) (text : List ℕ) (v : Value g) (o : Outcome (Value g)) → parse g text (length text) ≡ o → finish (Mark m) (length text) o ≡ Ok v → IsText g m text v
is_text g m text v (Failed left) p e = cc
is_text g m text v (Took w rest left) p e =
    elim (chosen (ends (Mark m) rest) _ _ _ e) [
      | inr q ↦ let f = q.1 in cc
      | inl q ↦ (let s : w ≡ v = (let f = q.1 in cc) in
          record { rest = rest; has = subst (λ x. Has g x text rest) s (sound g text (length text) w rest left p); end = all_is m (fit (Mark m) rest) q.0 })
    ]

reads_text : (g : SyntaxRule) (m : ℕ) (text : List ℕ) (v : Value g) → decides g (Mark m ∷ []) ≡ true → IsText g m text v → whole g (Mark m) text ≡ Ok v
reads_text g m text v d t =
    let f : fits (Mark m) t.rest ≡ true = ap (λ o. is_some o) t.end in
    let p = complete g (Mark m ∷ []) v text t.rest (length text) d t.has (or_left (fits (Mark m) t.rest) false f) in
    let k : ends (Mark m) t.rest ≡ true = ap (λ o. is_all o) t.end in
    rw (p.1, k) refl

pub whole_texts : (g : SyntaxRule) (m : ℕ) (text : List ℕ) (v : Value g) → decides g (Mark m ∷ []) ≡ true → (whole g (Mark m) text ≡ Ok v) ↔ IsText g m text v
whole_texts g m text v d = (λ e. is_text g m text v (parse g text (length text)) refl e, λ t. reads_text g m text v d t)

pub goes_no_further : (g : SyntaxRule) (m : ℕ) (text : List ℕ) (at : ℕ) (other : List ℕ) (v : Value g) → decides g (Mark m ∷ []) ≡ true
    → whole g (Mark m) text ≡ Err at → IsText g m other v → common text other ≤ at
goes_no_further g m text at other v d e t = no_further g m text at other v t.rest d e t.has t.end
