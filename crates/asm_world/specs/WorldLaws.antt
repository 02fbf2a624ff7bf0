-- What commands that are answered ok keep of a world.
use Rattle.std.specs.Prelude.{◌≡◌, ◌≢◌, ◌<◌, true, List, [], ◌∷◌, ◌++◌}
use Rattle.std.specs.Option.{ForSome}
use Rattle.asm_group.specs.Group.{Group}
use Rattle.asm_group.specs.Names.{Bytes, is_same_name}
use Rattle.asm_world.specs.Below.{Below}
use Rattle.asm_world.specs.Between.{MayStandFor}
use Rattle.asm_world.specs.Command.{Command}
use Rattle.asm_world.specs.Reply.{Done}
use Rattle.asm_world.specs.Step.{Step, last_id}
use Rattle.asm_world.specs.World.{World, SessionEntry, Mounted, groups_of}

-- a group of the session
abbrev pub IsIn : SessionEntry → List SessionEntry → Type 0
IsIn entry session = (before after : List SessionEntry) × (session ≡ before ++ entry ∷ after)

-- The images of each group of the session stand for groups of its name, for one at least, and for one alone where it is mounted.
pub record IsWholeWorld (w : World) : Type 0 where
  pub named : (entry : SessionEntry) → IsIn entry w.session → (g : Group) → MayStandFor w entry.id g → is_same_name g.name entry.name ≡ true
  pub some : (entry : SessionEntry) → IsIn entry w.session → groups_of w entry.id ≢ []
  pub one : (entry : SessionEntry) → IsIn entry w.session → entry.state ≡ Mounted → (g : Group) × (groups_of w entry.id ≡ g ∷ [])

-- A command that is answered ok keeps this, as long as ids don't run out.
abbrev pub DoneKeepsWhole : Type 0
DoneKeepsWhole = (below : Below) (w new : World) (command : Command) (lines : List Bytes) → ForSome below.found.made (λ id. id < last_id) → IsWholeWorld w → Step below w command (Done lines) new → IsWholeWorld new
