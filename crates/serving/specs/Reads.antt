-- What is read of the text of a command.
use Rattle.std.specs.Prelude.{◌≡◌, Result, Ok, Err}
use Rattle.asm_group.specs.Names.{Bytes}
use Rattle.asm_world.specs.Command as c
use Rattle.asm_world.specs.Language.{command_of}
use Rattle.asmcmd.specs.Verbs.{meant_verb}
use Rattle.asmcmd.specs.declared.verb.ReadError.{ReadError}
use Rattle.asmcmd.specs.declared.verb.ReadError.TheVariants.{Syntax, NoMemory}
use Rattle.group_sql.specs.Said.{statement_said}
use Rattle.serving.specs.declared.reader.Request.{Request}
use Rattle.serving.specs.declared.reader.Request.TheVariants.{Said, Asked}

abbrev pub request_view : Request → c.Command
request_view (Said statement) = c.Said (statement_said statement)
request_view (Asked verb) = c.Asked (meant_verb verb)

-- A command is read exactly where the text asks for it, and else where the text is refused is told, unless memory ran out.
abbrev pub IsRequestRead : Result Request ReadError → Bytes → Type 0
IsRequestRead (Ok request) text = command_of text ≡ request_view request
IsRequestRead (Err (Syntax at)) text = command_of text ≡ c.Unreadable at
IsRequestRead (Err NoMemory) text = Unit {0}
