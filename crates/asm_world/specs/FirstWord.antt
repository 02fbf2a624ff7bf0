-- Which command texts are statements: their first word says it, and the two languages are read apart.
use Rattle.std.specs.Prelude.{◌≡◌, ℕ, max, Bool, true, false, [], ◌∷◌, map, Result, Ok, Err, codes}
use Rattle.asm_grammar.specs.Bytes.{is_blank, upper, common}
use Rattle.asm_grammar.specs.FirstWord.{opens_statement}
use Rattle.asm_grammar.specs.Reading.{whole}
use Rattle.asm_grammar.specs.Syntax.{Value}
use Rattle.asm_grammar.specs.Word.{End}
use Rattle.asm_group.specs.Names.{Bytes}
use Rattle.asm_world.specs.Command.{Command, Said, Unreadable}
use Rattle.asm_world.specs.Grammar as g
use Rattle.asm_world.specs.Language.{command_of, verb_or_none}
use Rattle.asm_world.specs.Meaning.{statement_of}
use Rattle.asm_world.specs.Verbs as v

abbrev pub begins_blank : Bytes → Bool
begins_blank [] = false
begins_blank (b ∷ bytes) = is_blank b

abbrev pub statement_or_none : Result (Value g.statement) ℕ → Command
statement_or_none (Ok statement) = Said (statement_of statement)
statement_or_none (Err at) = Unreadable at

-- A text whose first word is one of these asks for what it says as a statement.
abbrev pub StatementsAreReadAlone : Type 0
StatementsAreReadAlone = (text : Bytes) → opens_statement text ≡ true → command_of text ≡ statement_or_none (whole g.statement g.semicolon text)

-- how many bytes begin one of the words CREATE, DROP and ALTER
abbrev pub keyword_front : Bytes → ℕ
keyword_front text = max (common (codes "CREATE") (map upper text)) (max (common (codes "DROP") (map upper text)) (common (codes "ALTER") (map upper text)))

-- Any other text asks for what it says as a verb, and a front of these words counts as the front of a command.
abbrev pub VerbsAreReadAlone : Type 0
VerbsAreReadAlone = (text : Bytes) → opens_statement text ≡ false → begins_blank text ≡ false → command_of text ≡ verb_or_none (keyword_front text) (whole v.verb End text)
