-- How groups come and go. Of DISMOUNT and CHECK it is proved what they do, and of the creation of an EXTERNAL group on one disk, of which
-- its path alone is said; of MOUNT, where the disks stand for the world.
use Rattle.std.specs.Prelude.{◌≡◌, ⊤, ℕ, Bool, true, false, ◌||◌, is_some, List, [], ◌∷◌, Option, Some, None, if◌then◌else◌}
use Rattle.std.specs.Option.{option_map}
use Rattle.std.specs.FinMap as maps
use Rattle.asm_group.specs.declared.GroupKind.{GroupKind}
use Rattle.asm_group.specs.declared.GroupKind.TheVariants.{External, Normal, High}
use Rattle.asm_group.specs.Names.{Bytes}
use Rattle.asm_group.specs.Refusal as r
use Rattle.asm_world.specs.Command.{Command, Said, Asked, Unreadable}
use Rattle.asm_world.specs.Statement.{Statement, CreateDisk, CreateGroup, DropGroup, Alter, Attribute, NewDisk, NewFailgroup, Check, Mount, Dismount}
use Rattle.asm_world.specs.World.{World}
use Rattle.session_claims.specs.mounted_groups.Creating.{made_group}
use Rattle.session_claims.specs.mounted_groups.Found.{Counts, RefusalCause}
use Rattle.session_claims.specs.mounted_groups.MountCauses.{MountRefusal}

-- ---- the creation of which it is proved what it does

abbrev pub one_disk : Bytes → NewFailgroup
one_disk path = record { quorum = false; name = None; disks = record { path = path; name = None; size = None; force = false } ∷ [] }

abbrev pub creation_of : Bytes → Bytes → Statement
creation_of name path = CreateGroup name (Some External) (one_disk path ∷ []) []

-- the item of a list of one
abbrev pub only : {A : Type 0} → List A → Option A
only [] = None
only (x ∷ []) = Some x
only (x ∷ y ∷ others) = None

-- the path of a disk of which nothing else is said
abbrev pub plain_path : Option NewDisk → Option Bytes
plain_path None = None
plain_path (Some d) = if is_some d.name || is_some d.size || d.force then None else Some d.path

-- the same of the only disk of a failure group without a name
abbrev pub path_in_group : Option NewFailgroup → Option Bytes
path_in_group None = None
path_in_group (Some f) = if f.quorum || is_some f.name then None else plain_path (only f.disks)

-- the same of the only failure group, where the group is EXTERNAL and has no attributes
abbrev pub external_path : Option GroupKind → List NewFailgroup → List Attribute → Option Bytes
external_path None groups attributes = None
external_path (Some Normal) groups attributes = None
external_path (Some High) groups attributes = None
external_path (Some External) groups [] = path_in_group (only groups)
external_path (Some External) groups (attribute ∷ attributes) = None

-- the name and the path of such a creation
abbrev pub creation_in : Statement → Option (Bytes × Bytes)
creation_in (CreateGroup name kind groups attributes) = option_map (λ path. (name, path)) (external_path kind groups attributes)
creation_in (CreateDisk path size) = None
creation_in (DropGroup name contents) = None
creation_in (Alter name clause) = None

-- the name and the path of the creation that a command asks for
abbrev pub creation_asked : Command → Option (Bytes × Bytes)
creation_asked (Said s) = creation_in s
creation_asked (Asked verb) = None
creation_asked (Unreadable at) = None

-- of which it is proved on each bay what they do
abbrev pub is_proved : Command → Bool
is_proved (Said (CreateGroup name kind groups attributes)) = is_some (external_path kind groups attributes)
is_proved (Said (DropGroup name contents)) = false
is_proved (Said (Alter name (Mount force))) = false
is_proved other = true

-- which mount a group that the disks hold
abbrev pub mounts : Command → Bool
mounts (Said (Alter name (Mount force))) = true
mounts other = false

-- the name of that group
abbrev pub name_mounted : Command → Bytes
name_mounted (Said (Alter name (Mount force))) = name
name_mounted other = []

-- Which tell of a group as it is mounted, or mount one: a name finds at most one group only where each mounted group has its entry's name.
abbrev pub shows_group : Command → Bool
shows_group (Said (Alter name Check)) = true
shows_group other = mounts other

-- ---- what is counted of them

abbrev makes : Option (Bytes × Bytes) → ℕ → World → Type 0
makes None id w = ⊥
makes (Some v) id w = maps.get w.groups id ≡ Some (made_group v.0 ∷ [])

-- an id that was given has the new group alone
abbrev pub IsMadeByGroupCommand : Command → ℕ → World → Type 0
IsMadeByGroupCommand c id w = makes (creation_asked c) id w

abbrev causes : List Bytes → Option (Bytes × Bytes) → r.Refusal → Counts → Counts → Type 0
causes paths None cause s t = ⊤
causes paths (Some v) (r.TooMany kind limit) s t = ⊤
causes paths (Some v) r.GroupExists s t = ⊤
causes paths (Some (name, path)) cause s t = RefusalCause paths path cause s t

-- A creation on one disk is refused by its path, and a mount by what the disks held. The other causes are the session's.
abbrev pub IsRefused : List Bytes → Command → r.Refusal → Counts → Counts → Type 0
IsRefused paths (Said (Alter name (Mount force))) cause s t = MountRefusal paths name force cause s t
IsRefused paths c cause s t = causes paths (creation_asked c) cause s t
