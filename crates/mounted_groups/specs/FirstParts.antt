-- The parts of a new group once it is mounted as it was created.
use Rattle.std.specs.Prelude.{◌≡◌, ◌<◌, ℕ, false, List, [], ◌∷◌, set, replicate, Option, Some, None}
use Rattle.bay.specs.Image.{Image, SameDisk}
use Rattle.bay.specs.Moments.{Runs, NowOnly}
use Rattle.bay.specs.State.{BayState}
use Rattle.asm_group.specs.Group.{Group}
use Rattle.asm_group.specs.Names.{Bytes}
use Rattle.asm_formats.specs.Items.{Item}
use Rattle.asm_formats.specs.Metadata.{metadata}
use Rattle.asm_images.specs.Bridge.{disk_bytes}
use Rattle.asm_images.specs.Kept.{Kept}
use Rattle.group_recovery.specs.catalog_tables.Items.{AreItemsOf}
use Rattle.group_recovery.specs.directory_store.Stores.{Keeps, Stored, AreFirst}
use Rattle.group_engine.specs.Commits.{turns_at_most}
use Rattle.group_engine.specs.Mounts.{HasOnly, IsMounted, IsOwn, IsReady, IsWhole, MountedGroup, Mounts, Represents}
use Rattle.group_engine.specs.declared.attached.Attached.{Attached}
use Rattle.status_register.specs.Keeping.{KeepsStanding}
use Rattle.status_register.specs.Registered.{Registered}
use Rattle.status_register.specs.declared.member.Member.{Member}
use Rattle.mounted_groups.specs.Creating.{HasMember, usual_shape}
use Rattle.mounted_groups.specs.Found.{IsSlotOfPath}
use Rattle.mounted_groups.specs.Holding.{IsHeldSlot}
use Rattle.mounted_groups.specs.Planned.{Plan, first_entries, items_of_plan, metadata_of_plan, record_of_plan}
use Rattle.mounted_groups.specs.Stages.{first_copy}

-- disk 0 in this slot
abbrev pub first_member : ℕ → Member
first_member slot = record { slot = slot; number = 0; birth = 1; sector = 512 }

-- of the 64 disks the first alone is attached
abbrev pub first_disks : Attached → List (Option Attached)
first_disks disk = set (replicate 64 None) 0 (Some disk)

-- the register of a new group, whose first record stands on the disk of this slot
abbrev pub new_group_register : ℕ → Plan → Registered
new_group_register slot plan = record { id = plan.id; members = Some (first_member slot) ∷ replicate 63 None; value = record_of_plan plan; epoch = 1; turn = 1; is_fresh = false }

-- the disk in the slot says what one does that has all parts of the plan's group
abbrev pub SaysAll : ℕ → Plan → Image → Type 0
SaysAll slot plan image = metadata (disk_bytes image slot) ≡ metadata_of_plan plan (image.size slot)

-- The store has the first records on the copy of disk 0, and takes commits.
pub record IsFirstStore (slot : ℕ) (plan : Plan) (store : Stored) (state : BayState) : Type 0 where
  pub records : AreFirst (first_entries plan) [] store.table
  pub copies : store.copies ≡ first_copy slot ∷ []
  pub keeps : Keeps store state

-- The group of a plan takes calls, on the disk of this slot alone.
pub record IsMountedOnSlot (slot : ℕ) (plan : Plan) (m : MountedGroup) (state : BayState) : Type 0 where
  pub mounted : IsMounted m
  pub name : m.name ≡ plan.name
  pub id : m.register.id ≡ plan.id
  pub value : m.register.value ≡ record_of_plan plan
  pub shape : m.catalog.shape ≡ usual_shape
  pub still : m.flight ≡ None
  pub own : (s : ℕ) → IsOwn m s → s ≡ slot
  pub has : IsOwn m slot
  pub whole : IsWhole m
  pub ready : IsReady m state
  -- its parts are those that were written
  pub register : m.register ≡ new_group_register slot plan
  pub copies : m.store.copies ≡ first_copy slot ∷ []
  pub items : (items : List Item) → AreItemsOf m.catalog.tables items → items ≡ items_of_plan plan
  pub history : KeepsStanding m.register state

-- A group of this name and id takes calls, and no slot that others hold is its disk's.
pub record IsNewlyMounted (held : List ℕ) (name : Bytes) (id : Option ℕ) (m : MountedGroup) (state : BayState) : Type 0 where
  pub mounted : IsMounted m
  pub name_is : m.name ≡ name
  pub id_is : id ≡ Some m.register.id
  pub own : (slot : ℕ) → IsOwn m slot → IsHeldSlot held slot → ⊥
  pub whole : IsWhole m
  pub ready : IsReady m state

-- The group is mounted on the disks of n slots, and each member of its id is attached to it.
pub record IsAlone (n : ℕ) (g : Group) (m : MountedGroup) (state : BayState) : Type 0 where
  pub kept : Kept
  pub mounts : Mounts n m state g kept
  pub only : NowOnly state (HasOnly m.register.id kept)

-- What a creation on n slots mounted: its tables say that it is the group g, one turn was taken, there is one copy, and no move is on its
-- way. Where no disk was a member of its id before, it is mounted on the disks as they are.
pub record MountsNew (n : ℕ) (g : Group) (m : MountedGroup) (old new : BayState) : Type 0 where
  pub represents : Represents m g
  pub turns : turns_at_most m ≡ 2
  pub still : m.flight ≡ None
  pub alone : NowOnly old (λ image. HasMember m.register.id image → ⊥) → IsAlone n g m new

-- each disk but that of the path stays
abbrev pub SameBut : List Bytes → Bytes → Image → Image → Type 0
SameBut paths path x y = (slot : ℕ) → (IsSlotOfPath paths path slot → ⊥) → SameDisk slot x y

-- Calls on n slots leave each disk but that of the path.
abbrev pub SparesAllBut : List Bytes → Bytes → ℕ → BayState → BayState → Type 0
SparesAllBut paths path n s t = Runs (λ slot. slot < n) (SameBut paths path) s t
