-- What a stop may leave between two commands, against the world and the groups that are mounted.
use Rattle.std.specs.Prelude.{◌≡◌, ◌⊎◌, ℕ, ◌<◌, ◌≤◌, Bool, IsSome, true, List, [], ◌∷◌, length, Option, None, Some}
use Rattle.bay.specs.Image.{Image}
use Rattle.bay.specs.State.{BayState}
use Rattle.asm_group.specs.Group.{Group}
use Rattle.asm_formats.specs.Status.{Status}
use Rattle.asm_images.specs.Bridge.{disks_in}
use Rattle.asm_images.specs.Kept.{Kept, IsMemberIn}
use Rattle.asm_images.specs.Sound.{SoundBy}
use Rattle.asm_images.specs.Stands.{Standing}
use Rattle.asm_world.specs.Between.{groups_between}
use Rattle.asm_world.specs.Command.{Command}
use Rattle.asm_world.specs.World.{SessionEntry, World, groups_of, has_mounted, is_mounted}
use Rattle.mounted_groups.specs.Creating.{HasMember}
use Rattle.mounted_groups.specs.group_recovery.Mounting.{Allows}
use Rattle.mounted_groups.specs.group_engine.Mounts.{MountedGroup, Mounts}
use Rattle.mounted_groups.specs.group_engine.Pending.{OutlastsFaults}
use Rattle.world_steps.specs.Told.{AreIdsApart}

-- ---- a group and its entry

-- the entry and the group are in the same place of the session
abbrev pub IsPaired : List SessionEntry → List MountedGroup → SessionEntry → MountedGroup → Type 0
IsPaired [] groups entry group = ⊥
IsPaired (e ∷ entries) [] entry group = ⊥
IsPaired (e ∷ entries) (m ∷ groups) entry group = ((entry ≡ e) × (group ≡ m)) ⊎ IsPaired entries groups entry group

-- ---- one group

-- With all the disks of the program's n slots, the Status and the directories of an id are there.
abbrev pub IsStanding : ℕ → ℕ → Image → Type 0
IsStanding n id image = Standing id (disks_in n image) (λ any. true)

-- A mounted group: it is the only one of its id's list, and it is mounted on the disks as they are, by one history of all images that a
-- stop now may leave. It rests: no record is begun behind the completed one, and no move is on its way. Disks that aren't attached to it may
-- be members of its id.
pub record IsMountedAs (n id : ℕ) (m : MountedGroup) (groups : List Group) (bay : BayState) : Type 0 where
  pub same : m.register.id ≡ id
  pub group : Group
  pub only : groups ≡ group ∷ []
  pub kept : Kept
  pub mounts : Mounts n m bay group kept
  -- its turns don't run out, whatever fails
  pub turns : OutlastsFaults m
  pub still : m.flight ≡ None

-- the image stands for these groups under the id by this history, however many of its slots are looked at
abbrev pub IsSoundBy : ℕ → List Group → Option Status → List Status → Image → Type 0
IsSoundBy id groups completed begun image = (slots : ℕ) → SoundBy id (disks_in slots image) groups completed begun

-- ---- all groups

-- Of each id of which the disks hold a member, they hold all members that the image has.
abbrev pub HoldsMembers : Image → Image → Type 0
HoldsMembers held image = (id slot : ℕ) → HasMember id held → IsMemberIn id image slot → IsMemberIn id held slot

-- Each image that a stop now may leave stands for the groups of the world, under every id, and its members are of ids that the run
-- gave, which are below a number, or that were known when it began. Each mounted group is mounted on the disks as they are.
pub record StandsFor (n : ℕ) (known : ℕ → Bool) (given : ℕ) (bay : BayState) (w : World) (groups : List MountedGroup) : Type 0 where
  -- the bay tells what its disks hold
  pub tells : IsSome bay.holds
  pub entries : length groups ≡ length w.session
  pub ids : AreIdsApart w.session
  pub allows : (image : Image) (id : ℕ) → bay.leaves bay.calls image → Allows id (groups_of w id) image
  pub mounted : (e : SessionEntry) (m : MountedGroup) → IsPaired w.session groups e m → is_mounted e ≡ true → IsMountedAs n e.id m (groups_of w e.id) bay
  -- so a disk on which no open header is read is a member of no mounted group
  pub members : (held image : Image) → bay.holds ≡ Some held → bay.leaves bay.calls image → HoldsMembers held image
  pub origin : (image : Image) (id : ℕ) → bay.leaves bay.calls image → HasMember id image → (id < given) ⊎ (known id ≡ true)

-- In each moment that ends in a command the disks hold groups between, and each group that stays mounted is there; in the one
-- that lasts they hold those of the world after it.
pub record KeepsWorlds (n : ℕ) (known : ℕ → Bool) (command : Command) (given' : ℕ) (old new : BayState) (w w' : World) (groups' : List MountedGroup) : Type 0 where
  pub held : (m : ℕ) (image : Image) (id : ℕ) → old.calls ≤ m → m < new.calls → new.leaves m image → Allows id (groups_between w command w' id) image
  pub there : (m : ℕ) (image : Image) (id : ℕ) → old.calls ≤ m → m < new.calls → new.leaves m image → has_mounted w id ≡ true → has_mounted w' id ≡ true → IsStanding n id image
  pub now : StandsFor n known given' new w' groups'
