-- What the text of a whole command asks for: a statement, or a verb.
use Rattle.std.specs.Prelude.{◌≡◌, ◌↔◌, ℕ, ◌<◌, ◌≤◌, max, ◌++◌, length, take, Result, Ok, Err}
use Rattle.asm_grammar.specs.Syntax.{Value}
use Rattle.asm_grammar.specs.Word.{End}
use Rattle.asm_grammar.specs.Reading.{whole}
use Rattle.asm_group.specs.Names.{Bytes}
use Rattle.asm_world.specs.Command.{Verb, Command, Said, Asked, Unreadable}
use Rattle.asm_world.specs.Grammar as g
use Rattle.asm_world.specs.Meaning.{Says, statement_of}
use Rattle.asm_world.specs.Statement.{Statement}
use Rattle.asm_world.specs.VerbMeaning.{SaysVerb, verb_of}
use Rattle.asm_world.specs.Verbs as v

abbrev pub verb_or_none : ℕ → Result (Value v.verb) ℕ → Command
verb_or_none at (Ok verb) = Asked (verb_of verb)
verb_or_none at (Err far) = Unreadable (max at far)

abbrev pub command_from : Result (Value g.statement) ℕ → Result (Value v.verb) ℕ → Command
command_from (Ok statement) verb = Said (statement_of statement)
command_from (Err at) verb = verb_or_none at verb

-- A statement, or else a verb, or else none, and how many bytes of the text begin one.
abbrev pub command_of : Bytes → Command
command_of text = command_from (whole g.statement g.semicolon text) (whole v.verb End text)

-- ---- laws

-- the text is one of the two languages, and asks for this
abbrev pub Asks : Bytes → Command → Type 0
Asks text (Said statement) = Says text statement
Asks text (Asked verb) = SaysVerb text verb
Asks text (Unreadable at) = ⊥

-- No text asks for two commands.
abbrev pub OneCommand : Type 0
OneCommand = (text : Bytes) (c d : Command) → Asks text c → Asks text d → c ≡ d

-- A command is found exactly where the text asks for it.
pub record CommandsAreFound : Type 0 where
  pub statements : (text : Bytes) (statement : Statement) → (command_of text ≡ Said statement) ↔ Says text statement
  pub verbs : (text : Bytes) (verb : Verb) → (command_of text ≡ Asked verb) ↔ SaysVerb text verb

-- So many bytes of the text begin some command, and no more of them do.
pub record IsLongestCommandFront (text : Bytes) (at : ℕ) : Type 0 where
  pub within : at ≤ length text
  pub begins : (more : Bytes) × (c : Command) × Asks (take at text ++ more) c
  pub longest : (n : ℕ) → at < n → n ≤ length text → (more : Bytes) (c : Command) → Asks (take n text ++ more) c → ⊥

abbrev pub UnreadableAtLongestFront : Type 0
UnreadableAtLongestFront = (text : Bytes) (at : ℕ) → command_of text ≡ Unreadable at → IsLongestCommandFront text at
