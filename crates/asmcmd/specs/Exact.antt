-- What is read of a whole line.
use Rattle.std.specs.Prelude.{◌≡◌, ℕ, ◌-◌, max, length, Result, Ok, Err}
use mathlib.Core.Logic.{inr}
use Rattle.asm_grammar.specs.Laws.{IsLongestLineFront}
use Rattle.asm_grammar.specs.Reading.{whole}
use Rattle.asm_grammar.specs.Syntax.{SyntaxRule, Value}
use Rattle.asm_grammar.specs.Word.{End}
use Rattle.asm_grammar.specs.declared.words.ReadError.{ReadError as Unread}
use Rattle.asm_grammar.specs.declared.words.ReadError.TheVariants as unread
use Rattle.asm_group.specs.Names.{Bytes}
use Rattle.asm_world.specs.Command as c
use Rattle.asm_world.specs.FirstWord.{keyword_front}
use Rattle.asm_world.specs.Grammar.{◌∣◌}
use Rattle.asm_world.specs.Language.{command_of, verb_or_none, IsLongestCommandFront}
use Rattle.asm_world.specs.VerbMeaning.{SaysVerb, verb_of}
use Rattle.asm_world.specs.Verbs as g
use Rattle.asmcmd.specs.Verbs.{meant_verb}
use Rattle.asmcmd.specs.declared.verb.Verb.{Verb}
use Rattle.asmcmd.specs.declared.verb.ReadError.{ReadError}
use Rattle.asmcmd.specs.declared.verb.ReadError.TheVariants.{Syntax as Miss, NoMemory}

-- the verbs behind those of files
abbrev pub other_verbs : SyntaxRule
other_verbs = g.names ∣ g.reports ∣ g.disks

abbrev pub other_of : Value other_verbs → c.Verb
other_of v = verb_of (inr v)

-- the verbs behind those of names
abbrev pub last_verbs : SyntaxRule
last_verbs = g.reports ∣ g.disks

abbrev pub last_of : Value last_verbs → c.Verb
last_of v = verb_of (inr (inr v))

-- the place of a refusal, of a line of so many bytes
abbrev pub read_error_of : ℕ → Unread → ReadError
read_error_of len (unread.Syntax left) = Miss (len - left)
read_error_of len unread.NoMemory = NoMemory

-- What the line asks for as a verb, where a front of CREATE, DROP or ALTER counts as the front of a command.
unfoldable pub wanted_verb : Bytes → c.Command
wanted_verb text = verb_or_none (keyword_front text) (whole g.verb End text)

-- A verb is read where the line asks for it, and else where it is unreadable is told, unless memory ran out.
abbrev pub IsVerbRead : Result Verb ReadError → Bytes → Type 0
IsVerbRead (Ok verb) text = wanted_verb text ≡ c.Asked (meant_verb verb)
IsVerbRead (Err NoMemory) text = Unit {0}
IsVerbRead (Err (Miss at)) text = wanted_verb text ≡ c.Unreadable at

-- A line is no verb. So many bytes of it begin one, or one of the words CREATE, DROP and ALTER, and no more do.
pub record IsNoVerb (text : Bytes) (at : ℕ) : Type 0 where
  pub no_verb : (verb : c.Verb) → SaysVerb text verb → ⊥
  pub far : ℕ
  pub longest : IsLongestLineFront g.verb text far
  pub place : at ≡ max (keyword_front text) far

-- A verb is given exactly where the line says it, and else how far the line is one.
abbrev pub IsExact : Result Verb ReadError → Bytes → Type 0
IsExact (Ok verb) text = SaysVerb text (meant_verb verb)
IsExact (Err NoMemory) text = Unit {0}
IsExact (Err (Miss at)) text = IsNoVerb text at

-- The same of the line as a command, where its first word isn't that of a statement.
abbrev pub IsCommand : Result Verb ReadError → Bytes → Type 0
IsCommand (Ok verb) text = command_of text ≡ c.Asked (meant_verb verb)
IsCommand (Err NoMemory) text = Unit {0}
IsCommand (Err (Miss at)) text = (command_of text ≡ c.Unreadable at) × IsLongestCommandFront text at
