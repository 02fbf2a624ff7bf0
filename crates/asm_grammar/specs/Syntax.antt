-- A grammar as a value, and the texts that it has.
use Rattle.std.specs.Prelude.{◌≡◌, ℕ, ◌⊎◌, List, [], ◌∷◌, Option, Some, None}
use mathlib.Core.Logic.{inl, inr}
use Rattle.asm_grammar.specs.Word.{Word, Meaning, fit}

pub data SyntaxRule : Type 0 where
  -- one word
  One : Word → SyntaxRule
  -- the first, and behind it the second
  Then : SyntaxRule → SyntaxRule → SyntaxRule
  -- the first or the second
  Either : SyntaxRule → SyntaxRule → SyntaxRule
  -- it, or nothing
  Maybe : SyntaxRule → SyntaxRule
  -- it any number of times
  Many : SyntaxRule → SyntaxRule

-- what a text of the grammar says
abbrev pub Value : SyntaxRule → Type 0
Value (One w) = Meaning w
Value (Then a b) = Value a × Value b
Value (Either a b) = Value a ⊎ Value b
Value (Maybe a) = Option (Value a)
Value (Many a) = List (Value a)

-- In an empty list the text is left as it was. Else the first stands at its front, and the others behind.
abbrev pub HasAll : {A : Type 0} → (A → List ℕ → List ℕ → Type 0) → List A → List ℕ → List ℕ → Type 0
HasAll has [] text rest = rest ≡ text
HasAll has (v ∷ vs) text rest = (middle : List ℕ) × has v text middle × HasAll has vs middle rest

-- The text is one that says v, and then the rest.
abbrev pub Has : (g : SyntaxRule) → Value g → List ℕ → List ℕ → Type 0
Has (One w) v text rest = fit w text ≡ Some (v, rest)
Has (Then a b) (v, w) text rest = (middle : List ℕ) × Has a v text middle × Has b w middle rest
Has (Either a b) (inl v) text rest = Has a v text rest
Has (Either a b) (inr w) text rest = Has b w text rest
Has (Maybe a) None text rest = rest ≡ text
Has (Maybe a) (Some v) text rest = Has a v text rest
Has (Many a) vs text rest = HasAll (λ v. Has a v) vs text rest
