-- What a reader of the program returns, as an outcome of reading.
use Rattle.std.specs.Prelude.{◌≡◌, ℕ, ◌-◌, min, Bool, List, ◌∷◌, ◌++◌, map, length, Option, Some, None, Result, Ok, Err}
use Rattle.std.specs.Bool.{MatchBool}
use Rattle.asm_grammar.specs.Word.{Word, Meaning, Mark, fit, near}
use Rattle.asm_grammar.specs.Syntax.{One, Then, Many, Value}
use Rattle.asm_grammar.specs.Syntax as syntax
use Rattle.asm_grammar.specs.Reading.{Outcome, Took, Failed, mapped, parse}
use Rattle.asm_grammar.specs.declared.words.Place.{Place}
use Rattle.asm_grammar.specs.declared.words.ReadError.{ReadError}
use Rattle.asm_grammar.specs.declared.words.ReadError.TheVariants.{Syntax, NoMemory}

-- the outcome of reading a part from a place, with what it says
abbrev pub reads : {A : Type 0} → (s : syntax.SyntaxRule) → (Value s → A) → Place → Outcome A
reads s says from = mapped says (parse s from.rest.now from.left)

-- A refusal is a failed reading, but one for want of memory.
abbrev pub RefusesReading : {Y : Type 0} → ReadError → Outcome Y → Type 0
RefusesReading NoMemory read = Unit {0}
RefusesReading (Syntax left) read = read ≡ Failed left

-- What was returned, seen by view, and the place behind it are what reading gives.
abbrev pub Gives : {X Y : Type 0} → (X → Y) → Result (X × Place) ReadError → Outcome Y → Type 0
Gives view (Ok x) read = read ≡ Took (view x.0) x.1.rest.now x.1.left
Gives view (Err e) read = RefusesReading e read

-- The same for a word that says nothing but itself.
abbrev pub Passes : Result Place ReadError → Outcome (Unit {0}) → Type 0
Passes (Ok p) read = read ≡ Took tt p.rest.now p.left
Passes (Err e) read = RefusesReading e read

-- Whether the word stands there, and the place behind it, or before it with the miss noted.
abbrev pub Tries : (w : Word) → Meaning w → Place → Bool → Place → Type 0
Tries w v from found to = MatchBool found
    ((fit w from.rest.now ≡ Some (v, to.rest.now)) × (to.left ≡ from.left))
    ((fit w from.rest.now ≡ None) × (to.rest.now ≡ from.rest.now) × (to.left ≡ min from.left (length from.rest.now - near w from.rest.now)))

-- What the word says, where it stands there, and the place behind it; or nothing, and the place before it with the miss noted.
abbrev pub TriesFor : (w : Word) → Place → Option (Meaning w) → Place → Type 0
TriesFor w from (Some v) to = (fit w from.rest.now ≡ Some (v, to.rest.now)) × (to.left ≡ from.left)
TriesFor w from None to = (fit w from.rest.now ≡ None) × (to.rest.now ≡ from.rest.now) × (to.left ≡ min from.left (length from.rest.now - near w from.rest.now))

-- the items so far, and those that stand behind marks
abbrev pub items_from : {A : Type 0} (item : syntax.SyntaxRule) (says : Value item → A) → ℕ → List A → List ℕ → ℕ → Outcome (List A)
items_from item says mark front rest left = mapped (λ vs. front ++ map (λ p. says p.1) vs) (parse (Many (Then (One (Mark mark)) item)) rest left)

-- an item, and others behind marks
abbrev pub items_of : {A B : Type 0} → (B → A) → B × List (Unit {0} × B) → List A
items_of says (item, others) = says item ∷ map (λ p. says p.1) others
