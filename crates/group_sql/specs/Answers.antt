-- What reading a whole text answers.
use Rattle.std.specs.Prelude.{◌≡◌, ℕ, Result, Ok, Err}
use Rattle.asm_grammar.specs.Laws.{IsLongestFront}
use Rattle.asm_grammar.specs.Reading.{whole, result_of}
use Rattle.asm_group.specs.Names.{Bytes}
use Rattle.asm_world.specs.Grammar as g
use Rattle.asm_world.specs.Meaning.{Says, statement_of}
use Rattle.asm_world.specs.Statement as s
use Rattle.group_sql.specs.Said.{statement_said}
use Rattle.group_sql.specs.declared.reading.ReadError.{ReadError}
use Rattle.group_sql.specs.declared.reading.ReadError.TheVariants.{Syntax, NoMemory}
use Rattle.group_sql.specs.declared.statement.Statement.{Statement}

-- What the text says as a statement, or else how many of its bytes begin one.
unfoldable pub statement_or_front : Bytes → Result s.Statement ℕ
statement_or_front text = result_of statement_of (whole g.statement g.semicolon text)

-- What reading by the grammar of statements gives, unless memory was wanted.
abbrev pub IsStatementRead : Result Statement ReadError → Bytes → Type 0
IsStatementRead (Ok x) text = statement_or_front text ≡ Ok (statement_said x)
IsStatementRead (Err (Syntax at)) text = statement_or_front text ≡ Err at
IsStatementRead (Err NoMemory) text = Unit {0}

-- The text says no statement, and so many of its bytes, and no more, begin one.
abbrev pub IsTextRefused : ReadError → Bytes → Type 0
IsTextRefused (Syntax at) text = IsLongestFront g.statement 59 text at × ((x : s.Statement) → Says text x → ⊥)
IsTextRefused NoMemory text = Unit {0}
