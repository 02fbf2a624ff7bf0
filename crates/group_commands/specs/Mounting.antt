-- How a group is mounted into the session.
use Rattle.std.specs.Prelude.{◌≡◌, ◌⊎◌, List, ◌∷◌, ◌++◌, [], ◌≤◌, Bool, true, false, IfErr, OnOk, Result, get_or, length}
use Rattle.bay.specs.declared.disk.Bay as Bay
use Rattle.bay.specs.declared.host.Host as Host
use Rattle.refusal_lines.specs.Refusals.{meaning_of}
use Rattle.refusal_lines.specs.declared.refusal.Refusal.{Refusal}
use Rattle.refusal_lines.specs.declared.refusal.Refusal.TheVariants as cause
use Rattle.asm_group.specs.Names.{Bytes}
use Rattle.asm_group.specs.Refusal as r
use Rattle.asm_world.specs.World.{mounted_entry, without_entry}
use Rattle.session.specs.mounted_groups.Leaving.{LeavesRefused, WasMounted}
use Rattle.session.specs.mounted_groups.Mounting.{IsMountCause, IsMountedBy}
use Rattle.session.specs.group_engine.Frames.{StaysAttached}
use Rattle.session.specs.group_engine.Mounts.{MountedGroup}
use Rattle.group_recovery.specs.declared.error.MountError.{MountError}
use Rattle.group_recovery.specs.declared.error.MountError.TheVariants as error
use Rattle.group_recovery.specs.declared.quorum.MountOption.{MountOption}
use Rattle.group_recovery.specs.declared.quorum.MountOption.TheVariants.{Force, NoForce}
use Rattle.session.specs.Desks.{paths_on}
use Rattle.session.specs.Effects.{Past}
use Rattle.session.specs.Sessions.{AreReady, held_by, without_groups}
use Rattle.session.specs.declared.desk.Desk.{Desk}

abbrev pub option_of : Bool → MountOption
option_of true = Force
option_of false = NoForce

-- what the cause of a mount's refusal says, with images by their paths and disks by their names
abbrev pub mount_said : List Bytes → MountError → r.Refusal
mount_said paths error.NoGroup = r.NoGroup
mount_said paths error.TwoGroups = r.TwoGroups
mount_said paths (error.NoMajority seen need) = r.NoMajority seen need
mount_said paths (error.Damaged slot block) = r.Damaged (get_or paths slot []) block
mount_said paths error.DirectoriesLost = r.DirectoriesLost
mount_said paths (error.MissingDisk number name) = r.MissingDisks name
mount_said paths (error.Dead slot name) = r.Dismounted name
mount_said paths error.NoMemory = r.NoMemory

-- The refusal tells why the group wasn't mounted, past the slots that the mounted groups hold, and the mount left the disks so.
pub record IsMountRefusal {B H : Type 0} {bay : Bay.Ghosts B} {host : Host.Ghosts H} (name : Bytes) (option : MountOption) (old new : Desk B H bay host) (refusal : Refusal) : Type 0 where
  pub error_is : MountError
  pub cause_is : IsMountCause bay.state name (length old.paths.items) (held_by old.session.groups) option (bay.state old.bay) (bay.state new.bay) error_is
  pub leaves : LeavesRefused bay.state name (length old.paths.items) (held_by old.session.groups) option (bay.state old.bay) (bay.state new.bay) error_is
  pub says : meaning_of (λ _. []) refusal ≡ mount_said (paths_on old) error_is

-- A group of the name is the last, in place of one of its name. It was mounted from the disks in slots that no other group holds.
pub record Enters {B H : Type 0} {bay : Bay.Ghosts B} {host : Host.Ghosts H} (name : Bytes) (option : MountOption) (old new : Desk B H bay host) : Type 0 where
  pub group : MountedGroup
  pub is : IsMountedBy name (held_by old.session.groups) group (bay.state new.bay)
  pub mounts : WasMounted bay.state name (length old.paths.items) (held_by old.session.groups) option group (bay.state old.bay) (bay.state new.bay)
  pub entries : new.session.entries ≡ without_entry old.session.entries group.name ++ mounted_entry group.name group.register.value.id ∷ []
  pub groups : new.session.groups ≡ without_groups old.session.entries old.session.groups group.name ++ group ∷ []
  -- no id that was given is given anew
  pub given : old.session.given ≤ new.session.given

-- A group was mounted, or the session is as it was, but for want of memory. In each case all groups take the next call.
pub record MountsInto {B H : Type 0} {bay : Bay.Ghosts B} {host : Host.Ghosts H} (name : Bytes) (option : MountOption) (result : Result (Unit {0}) Refusal) (old new : Desk B H bay host) : Type 0 where
  pub paths : paths_on new ≡ paths_on old
  pub host_stays : new.host ≡ old.host
  pub place : new.session.place ≡ old.session.place
  pub ready : AreReady new.session.groups (bay.state new.bay)
  pub calls : (bay.state old.bay).calls ≤ (bay.state new.bay).calls
  pub past : Past (bay.state old.bay) (bay.state new.bay)
  pub attached : StaysAttached (bay.state old.bay) (bay.state new.bay)
  pub entered : OnOk result (Enters name option old new)
  pub refused : IfErr result (λ refusal. ((new.session ≡ old.session) × IsMountRefusal name option old new refusal) ⊎ (refusal ≡ cause.NoMemory))
