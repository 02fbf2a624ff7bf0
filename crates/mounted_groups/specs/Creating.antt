-- What the creation of a group does to an image of all disks.
use Rattle.std.specs.Prelude.{◌≡◌, ◌≢◌, ◌⊎◌, ℕ, ◌<◌, Bool, true, List, [], ◌∷◌, Option, None}
use Rattle.std.specs.Option.{ForSome}
use Rattle.bay.specs.Image.{Image, Same}
use Rattle.bay.specs.Moments.{Runs, Ends}
use Rattle.bay.specs.State.{BayState}
use Rattle.asm_group.specs.declared.GroupKind.TheVariants.{External}
use Rattle.asm_group.specs.Names.{Bytes}
use Rattle.asm_group.specs.Shape.{Shape}
use Rattle.asm_group.specs.Group.{Group}
use Rattle.asm_group.specs.NewGroup.{new_group, usual_attributes}
use Rattle.asm_formats.specs.Among.{IsAmong}
use Rattle.asm_images.specs.Members.{Member, all_members}
use Rattle.asm_images.specs.Bridge.{disks_in, ChangesSlot}
use Rattle.asm_images.specs.Kept.{Kept, header_in, IsMemberIn, IsHeld}
use Rattle.asm_formats.specs.Status.{Status}
use Rattle.asm_images.specs.Sound.{SoundBy}
use Rattle.group_recovery.specs.Mounting.{Allows}

-- a disk of the image is a member of the id
pub record HasMember (id : ℕ) (image : Image) : Type 0 where
  pub slots : ℕ
  pub member : Member
  pub is : IsAmong (all_members id (disks_in slots image)) member

-- On the disk of a slot a group is created: every other id stands for its groups by the history by which it did, and gets no member; an
-- id without a member has the new group or none.
pub record CreatesGroupOn (slot id : ℕ) (g : Group) (old new : Image) : Type 0 where
  pub others : (other slots : ℕ) (groups : List Group) (completed : Option Status) (begun : List Status) → other ≢ id
      → SoundBy other (disks_in slots old) groups completed begun → SoundBy other (disks_in slots new) groups completed begun
  pub members : (other : ℕ) → other ≢ id → HasMember other new → HasMember other old
  pub own : (HasMember id old → ⊥) → Allows id (g ∷ []) new
  -- no other disk changes, and this one becomes a member of no other id
  pub elsewhere : ChangesSlot slot old new
  pub joins : (other : ℕ) → other ≢ id → IsMemberIn other new slot → IsMemberIn other old slot

-- the disk in a slot had no open header
abbrev pub HasNoOpenHeader : Option Image → ℕ → Type 0
HasNoOpenHeader held slot = ForSome held (λ image. header_in image slot ≡ None)

-- Nothing has changed, or the group is being created on a disk that had no open header.
pub record MayCreate (held : Option Image) (slot id : ℕ) (g : Group) (old new : Image) : Type 0 where
  pub creates : CreatesGroupOn slot id g old new
  pub free : Same old new ⊎ HasNoOpenHeader held slot

-- The group is there, and this is kept of it, where the id had no member and the program has n slots: each of its members is attached.
pub record Founds (n id : ℕ) (g : Group) (kept : Kept) (old new : Image) : Type 0 where
  pub is_held : (HasMember id old → ⊥) → IsHeld n id (g ∷ []) kept new
  pub here : (HasMember id old → ⊥) → (slot : ℕ) → IsMemberIn id new slot → kept.slots slot ≡ true

-- What a creation under an id did to the disks of n slots: at every moment, and once it is done.
pub record HasCreated (n id : ℕ) (g : Group) (is_done : Bool) (old new : BayState) : Type 0 where
  -- the slot of the group's disk
  pub slot : ℕ
  pub moments : Runs (λ s. s < n) (MayCreate old.holds slot id g) old new
  -- no record is begun behind the first
  pub done : is_done ≡ true → (kept : Kept) × (kept.begun ≡ []) × Ends (Founds n id g kept) old new

-- units of 1 MB, sectors of 512 bytes, 20,000 extents of a size and 1,024 record blocks
abbrev pub usual_shape : Shape
usual_shape = record { kind = External; au = 1048576; sector = 512; step = 20000; dir_blocks = 1024 }

-- the units that the disk of a new group must have: those that its directory region reaches into, and 16 for users
abbrev pub units_needed : ℕ
units_needed = 25

-- the group that a creation of this name makes
abbrev pub made_group : Bytes → Group
made_group name = new_group name usual_shape usual_attributes
