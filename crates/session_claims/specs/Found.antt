-- What a mount found, against the disks as they were before and against the groups that are mounted.
use Rattle.std.specs.Prelude.{◌≡◌, ◌⊎◌, ℕ, ◌<◌, Bool, true, false, List, [], ◌∷◌, Some}
use Rattle.std.specs.Option.{ForSome}
use Rattle.bay.specs.Image.{Image}
use Rattle.bay.specs.State.{BayState}
use Rattle.asm_group.specs.Group.{Group}
use Rattle.asm_group.specs.Names.{Bytes, is_same_name}
use Rattle.asm_formats.specs.Among.{IsAmong}
use Rattle.asm_formats.specs.Header.{Header}
use Rattle.asm_images.specs.Kept.{header_in}
use Rattle.asm_world.specs.World.{SessionEntry, World, groups_of, has_mounted, is_mounted}
use Rattle.mounted_groups.specs.Creating.{HasMember}
use Rattle.mounted_groups.specs.Mounting.{WasQuorate}
use Rattle.mounted_groups.specs.group_engine.Mounts.{MountedGroup}
use Rattle.mounted_groups.specs.group_recovery.declared.quorum.MountOption.{MountOption}
use Rattle.session_claims.specs.Claims.{StandsFor}

-- ---- what was found

-- A disk of the first n slots is a member of the id, and its header has the name.
pub record HasNamed (n id : ℕ) (name : Bytes) (image : Image) : Type 0 where
  pub slot : ℕ
  pub below : slot < n
  pub header : Header
  pub is : header_in image slot ≡ Some header
  pub member : header.id ≡ id
  pub named : is_same_name header.group name ≡ true

-- What the disks held before the mount, where the bay tells it, has a member of the id that was found, with the name.
abbrev pub FoundIsMember : {B : Type 0} → (B → BayState) → BayState → Type 0
FoundIsMember {B} state s =
    (name : Bytes) (n : ℕ) (held : List ℕ) (option : MountOption) (was : WasQuorate state name n held option s)
    → ForSome s.holds (λ image. HasNamed n was.quorum.id name image × HasMember was.quorum.id image)

-- So the run gave the id, or it was known when the run began.
abbrev pub FoundIsKnown : {B : Type 0} → (B → BayState) → BayState → Type 0
FoundIsKnown {B} state s =
    (n : ℕ) (known : ℕ → Bool) (given : ℕ) (w : World) (groups : List MountedGroup) (name : Bytes) (held : List ℕ) (option : MountOption) → StandsFor n known given s w groups
    → (was : WasQuorate state name n held option s) → (was.quorum.id < given) ⊎ (known was.quorum.id ≡ true)

-- ---- and what is mounted

-- a mounted group that is alone under its id has the name of its entry
abbrev pub HaveNames : World → Type 0
HaveNames w = (e : SessionEntry) (g : Group) → IsAmong w.session e → is_mounted e ≡ true → groups_of w e.id ≡ g ∷ [] → g.name ≡ e.name

-- no mounted group has the name
abbrev pub IsNameFree : World → Bytes → Type 0
IsNameFree w name = (e : SessionEntry) → IsAmong w.session e → is_mounted e ≡ true → is_same_name e.name name ≡ true → ⊥

-- Where no mounted group has the name, none has the id that was found.
abbrev pub FoundIsUnmounted : {B : Type 0} → (B → BayState) → BayState → Type 0
FoundIsUnmounted {B} state s =
    (n : ℕ) (known : ℕ → Bool) (given : ℕ) (w : World) (groups : List MountedGroup) (name : Bytes) (held : List ℕ) (option : MountOption) → StandsFor n known given s w groups
    → HaveNames w → IsNameFree w name → (was : WasQuorate state name n held option s) → has_mounted w was.quorum.id ≡ false
