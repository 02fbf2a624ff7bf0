-- Moves of which it is proved what they do to the world and to the disks. What is said of all others are the bytes: what was read and
-- printed, the marks and the statuses. Of a stop for want of memory it isn't proved that something was due, nor what it left: it ends the
-- run, so nothing comes behind it.
use Rattle.std.specs.Prelude.{◌≡◌, ◌⊎◌, ◌&&◌, ⊤, ℕ, ◌∷◌, [], Bool, true, false, if◌then◌else◌}
use Rattle.asm_group.specs.Group.{Group}
use Rattle.asm_group.specs.Names.{Bytes, is_same_name}
use Rattle.asm_group.specs.Refusal as r
use Rattle.asm_formats.specs.Among.{IsAmong}
use Rattle.asm_world.specs.Command.{Command}
use Rattle.asm_world.specs.Reply.{Reply, Refused}
use Rattle.asm_world.specs.Run.{State, SessionMove, Starts, Expires, Answers, Slices, Rests, Stops}
use Rattle.asm_world.specs.World.{SessionEntry, World, groups_of, has_mounted, is_mounted}
use Rattle.session_claims.specs.mounted_groups.Found.{Counts}
use Rattle.session.specs.Families.{changes_group, is_proved, is_proved_on_disks, may_stop_torn, shows_group}
use Rattle.session.specs.Groups.{mounts, name_mounted}
use Rattle.session.specs.Meaning.{meaning}
use Rattle.world_steps.specs.Told.{HasGroups}

-- memory was short
abbrev pub is_short : Reply → Bool
is_short (Refused lines r.NoMemory) = true
is_short other = false

-- Whether it is proved what a command does that gets this reply. Of an edit, a write of bytes or a mount for which memory was short it
-- isn't: that ends the run, and the command may have dismounted its group before there was no memory to tell by which disk.
abbrev pub is_proved_as : Command → Reply → Bool
is_proved_as c reply = if may_stop_torn c && is_short reply then false else is_proved c

-- the same where the disks stand for the world
abbrev pub is_proved_on_disks_as : Command → Reply → Bool
is_proved_on_disks_as c reply = if may_stop_torn c && is_short reply then false else is_proved_on_disks c

abbrev moves_by : (Command → Reply → Bool) → SessionMove → Bool
moves_by proved (Answers found text reply) = proved (meaning text) reply
moves_by proved (Starts time) = true
moves_by proved (Expires event) = false
moves_by proved (Slices event) = false
moves_by proved Rests = true
moves_by proved Stops = false

abbrev pub is_proved_move : SessionMove → Bool
is_proved_move move = moves_by is_proved_as move

-- the same where the disks stand for the world
abbrev pub is_proved_move_on_disks : SessionMove → Bool
is_proved_move_on_disks move = moves_by is_proved_on_disks_as move

abbrev pub IsProved : SessionMove → Type 0
IsProved move = is_proved_move move ≡ true

abbrev pub IsProvedOnDisks : SessionMove → Type 0
IsProvedOnDisks move = is_proved_move_on_disks move ≡ true

-- Each mounted group is alone under its id, and has the entry's name. This is so in each run, but where ids run out: then a creation may
-- give an id that is taken, and the world has the new group under it alone.
pub record HasOwnGroups (w : World) : Type 0 where
  pub alone : HasGroups w
  pub named : (e : SessionEntry) (g : Group) → IsAmong w.session e → is_mounted e ≡ true → groups_of w e.id ≡ g ∷ [] → g.name ≡ e.name

-- the premise of an edit and of a write of bytes, and of what shows or mounts a group, on the world before it
abbrev pub IsMet : Command → World → Type 0
IsMet c w = (changes_group c ≡ true) ⊎ (shows_group c ≡ true) → HasOwnGroups w

abbrev pub IsMetIn : World → SessionMove → Type 0
IsMetIn w (Answers found text reply) = IsMet (meaning text) w
IsMetIn w (Starts time) = ⊤
IsMetIn w (Expires event) = ⊤
IsMetIn w (Slices event) = ⊤
IsMetIn w Rests = ⊤
IsMetIn w Stops = ⊤

-- A group of the name that isn't mounted is alone under its id: of a list of several it isn't proved which one a mount takes.
abbrev pub IsAloneByName : World → Bytes → Type 0
IsAloneByName w name = (id : ℕ) (g : Group) → has_mounted w id ≡ false → IsAmong (groups_of w id) g → is_same_name g.name name ≡ true → groups_of w id ≡ g ∷ []

-- the premise of a mount on the world before it, where the disks stand for that world
abbrev pub IsOneFor : Command → World → Type 0
IsOneFor c w = mounts c ≡ true → IsAloneByName w (name_mounted c)

abbrev pub IsOneForIn : World → SessionMove → Type 0
IsOneForIn w (Answers found text reply) = IsOneFor (meaning text) w
IsOneForIn w (Starts time) = ⊤
IsOneForIn w (Expires event) = ⊤
IsOneForIn w (Slices event) = ⊤
IsOneForIn w Rests = ⊤
IsOneForIn w Stops = ⊤

-- a move that is proved, in a state that meets its premise
abbrev pub IsProvedIn : State Counts → SessionMove → Type 0
IsProvedIn s move = IsProved move × IsMetIn s.world move
