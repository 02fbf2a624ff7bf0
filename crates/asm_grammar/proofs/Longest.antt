-- Where a text is refused is where its longest front that begins a text of the grammar ends.
use Rattle.std.proofs.Common.{◌≡◌, ℕ, zero, suc, ◌+◌, ◌-◌, ◌≤◌, min, true, false, inl, inr, List, [], ◌∷◌, ◌++◌, length, take, drop, refl, sym, ap, subst, ◌∙◌, arith}
use Rattle.std.specs.Prelude.{◌==◌, Err}
use Rattle.std.proofs.lemmas.Bool.{eqb-true}
use Rattle.asm_grammar.specs.Argument.{Exact}
use Rattle.asm_grammar.specs.Bytes.{common, is_blank, is_word}
use Rattle.asm_grammar.specs.Word.{Word, Keyword, Mark, Name, Number, Size, Minutes, Quoted, Argument, End, near}
use Rattle.asm_grammar.specs.Syntax.{SyntaxRule, One, Then, Either, Maybe, Many}
use Rattle.asm_grammar.specs.Reading.{Outcome, Took, Failed, parse, decides, ends, finish, whole}
use Rattle.asm_grammar.specs.Writing.{can_spell, all_can_spell}
use Rattle.asm_grammar.specs.Laws.{IsText, IsLongestFront}
use Rattle.asm_grammar.proofs.Tests.{both, not_true, is_true_or_false}
use Rattle.asm_grammar.proofs.Outcomes.{chosen}
use Rattle.asm_grammar.proofs.Nearest.{CanSpell, take_common}
use Rattle.asm_grammar.proofs.Reached.{AllCanSpell, some_text}
use Rattle.asm_grammar.proofs.Whole.{goes_no_further}

word_can : (w : Word) → can_spell w ≡ true → CanSpell w
word_can (Keyword k) e = e
word_can (Mark m) e = not_true (is_blank m) e
word_can Name e = tt
word_can Number e = tt
word_can Size e = tt
word_can Minutes e = tt
word_can Quoted e = tt
word_can (Argument (Exact k)) e = e
word_can (Argument k) e = tt
word_can End e = cc

pub all_can : (g : SyntaxRule) → all_can_spell g ≡ true → AllCanSpell g
all_can (One w) e = word_can w e
all_can (Then a b) e = let p = both (all_can_spell a) (all_can_spell b) e in (all_can a p.0, all_can b p.1)
all_can (Either a b) e = let p = both (all_can_spell a) (all_can_spell b) e in (all_can a p.0, all_can b p.1)
all_can (Maybe a) e = all_can a e
all_can (Many a) e = all_can a e

-- What two texts have in common stands at the front of each.
pub front_of : (n : ℕ) (text other : List ℕ) → n ≤ common text other → other ≡ take n text ++ drop n other
front_of zero text other l = refl
front_of (suc n) [] other l = absurd (omega arith)
front_of (suc n) (b ∷ text) [] l = absurd (omega arith)
front_of (suc n) (b ∷ text) (c ∷ other) l = elim (is_true_or_false (b == c)) [
  | inr h ↦ absurd (let k = rw h at l in omega arith)
  | inl h ↦
      (let k : suc n ≤ common text other + 1 = rw h at l in
      let e : b ≡ c = eqb-true b c h in
      ap (λ x. x ∷ other) (sym e) ∙ ap (λ x. b ∷ x) (front_of n text other (omega arith)))
]

finish_within : {A : Type 0} (m len at : ℕ) (o : Outcome A) → finish (Mark m) len o ≡ Err at → at ≤ len
finish_within m len at (Failed left) e = let k : len - left ≡ at = cc in omega arith
finish_within m len at (Took v rest left) e = elim (chosen (ends (Mark m) rest) _ _ _ e) [
  | inl p ↦ absurd (let q = p.1 in cc)
  | inr p ↦ (let k : len - min left (length rest - near (Mark m) rest) ≡ at = (let q = p.1 in cc) in omega arith)
]

pub longest_front : (g : SyntaxRule) (m : ℕ) (text : List ℕ) (at : ℕ) → decides g (Mark m ∷ []) ≡ true → all_can_spell g ≡ true → is_blank m ≡ false → is_word m ≡ false
    → whole g (Mark m) text ≡ Err at → IsLongestFront g m text at
longest_front g m text at d c b w e =
    let s = some_text g m text at d (all_can g c) b w e in
    record {
      within = finish_within m (length text) at (parse g text (length text)) e;
      begins = (drop at s.other, s.says, subst (λ x. IsText g m x s.says) (front_of at text s.other s.far) s.is_text);
      longest = λ n l k more v t.
          (let f = goes_no_further g m text at (take n text ++ more) v d e t in
          let h = take_common n text more k in absurd (omega arith));
    }
