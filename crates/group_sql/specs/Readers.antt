-- What the readers of parts of a statement give.
use Rattle.std.specs.Prelude.{◌≡◌, Result, Ok, Err}
use Rattle.asm_grammar.specs.Reads.{RefusesReading, reads}
use Rattle.asm_grammar.specs.Syntax.{SyntaxRule, Value}
use Rattle.asm_grammar.specs.Reading.{Outcome, Took, mapped, parse}
use Rattle.asm_grammar.specs.declared.words.Place.{Place}
use Rattle.asm_grammar.specs.declared.words.ReadError.{ReadError}

-- What was returned, seen by view, and the place behind it are what reading gives.
abbrev pub GivesPart : {X Y : Type 0} → (X → Y) → Result X ReadError → Place → Outcome Y → Type 0
GivesPart view (Ok x) to read = read ≡ Took (view x) to.rest.now to.left
GivesPart view (Err e) to read = RefusesReading e read

-- A part that may be absent is always read.
abbrev pub FindsPart : {A : Type 0} → A → Place → Outcome A → Type 0
FindsPart value to read = read ≡ Took value to.rest.now to.left
