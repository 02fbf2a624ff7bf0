-- What a command does on the desk.
use Rattle.std.specs.Prelude.{◌≡◌, ℕ, Bool, true, false, List, map}
use Rattle.std.specs.String.{string_bytes}
use Rattle.bay.specs.declared.disk.Bay as Bay
use Rattle.bay.specs.declared.host.Host as Host
use Rattle.asm_group.specs.Names.{Bytes}
use Rattle.asm_world.specs.Command.{Command, Asked, CopyFile}
use Rattle.asm_world.specs.Language.{command_of}
use Rattle.asm_world.specs.World.{World}
use Rattle.session.specs.declared.answer.Answer.{Answer}
use Rattle.session.specs.declared.desk.Desk.{Desk}
use Rattle.session.specs.Effects.{IsServed}
use Rattle.session.specs.Sessions.{AreReady, Knows, roster_of}
use Rattle.session.specs.Views.{reply_view, found_view}
use Rattle.asm_world.specs.Below.{GroupBelow}

abbrev pub paths_on : {B H : Type 0} {bay : Bay.Ghosts B} {host : Host.Ghosts H} → Desk B H bay host → List Bytes
paths_on desk = map string_bytes desk.paths.items

-- cp alone works on the host's files
abbrev pub is_copy_command : Command → Bool
is_copy_command (Asked (CopyFile source target)) = true
is_copy_command other = false

-- A command was answered so. This is the one clause of each function that runs one.
pub record IsAnswered {B H : Type 0} {bay : Bay.Ghosts B} {host : Host.Ghosts H} (text : Bytes) (answer : Answer) (old new : Desk B H bay host) : Type 0 where
  pub paths : paths_on new ≡ paths_on old
  -- the host is as it was
  pub host_stays : is_copy_command (command_of text) ≡ false → new.host ≡ old.host
  -- its groups take the next call
  pub ready : AreReady new.session.groups (bay.state new.bay)
  -- whatever world the session knew, it knows one now
  pub served : (w : World) (below : ℕ → GroupBelow) → Knows old.session w below → (w' : World) × (below' : ℕ → GroupBelow) × Knows new.session w' below'
      × IsServed (paths_on old) (found_view answer.found) text (reply_view answer.reply) (roster_of old.session) (roster_of new.session) (bay.state old.bay) (bay.state new.bay) below w w'
