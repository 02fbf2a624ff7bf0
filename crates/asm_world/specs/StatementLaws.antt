-- What holds of the grammar of statements.
use Rattle.std.specs.Prelude.{◌≡◌, ℕ, Some, Err}
use Rattle.asm_grammar.specs.Syntax.{Value}
use Rattle.asm_grammar.specs.Reading.{whole}
use Rattle.asm_grammar.specs.Writing.{pieces, AllSpell}
use Rattle.asm_grammar.specs.Laws.{IsLongestFront}
use Rattle.asm_group.specs.Names.{Bytes}
use Rattle.asm_world.specs.Grammar as g
use Rattle.asm_world.specs.Meaning.{Says}
use Rattle.asm_world.specs.Statement.{Statement}
use Rattle.asm_world.specs.Writing.{statement_value, statement_text}

-- No text says two statements.
abbrev pub OneStatement : Type 0
OneStatement = (text : Bytes) (s t : Statement) → Says text s → Says text t → s ≡ t

-- Where a text is refused its longest front that begins a statement ends.
abbrev pub RefusedAtLongestFront : Type 0
RefusedAtLongestFront = (text : Bytes) (at : ℕ) → whole g.statement g.semicolon text ≡ Err at → IsLongestFront g.statement 59 text at

-- What is written of a statement says this statement.
abbrev pub WrittenIsSaid : Type 0
WrittenIsSaid = (s : Statement) (v : Value g.statement) → statement_value s ≡ Some v → AllSpell (pieces g.statement v) → Says (statement_text s) s

-- Each statement that some text says has a canonical text, which says it.
abbrev pub SaidIsWritten : Type 0
SaidIsWritten = (text : Bytes) (s : Statement) → Says text s → Says (statement_text s) s
