-- How a disk gets its open header and loses it, and what that leaves of the groups.
use Rattle.std.specs.Prelude.{◌≡◌, ◌⊎◌, ℕ, ◌*◌, ◌<◌, ◌≤◌, false, List, [], ◌∷◌, Option, IsSome, IsTrue}
use Rattle.bay.specs.Image.{Image, MayMake}
use Rattle.bay.specs.State.{BayState, size_of}
use Rattle.body_slot.specs.Slot.{IsSectorSize, MayClose, MayPut, HasPut}
use Rattle.disk_forming.specs.Places.{gated_slot_at}
use Rattle.disk_forming.specs.Gates.{MayCloseAll, ClosesAll}
use Rattle.disk_forming.specs.Forming.{HasHeader}
use Rattle.asm_group.specs.Group.{Group}
use Rattle.asm_formats.specs.Bytes.{block_size, is_open}
use Rattle.asm_formats.specs.Regions.{least_size, header_gate, region_end, first_log, second_log}
use Rattle.asm_formats.specs.Header.{Header, is_header, header_spelling}
use Rattle.asm_formats.specs.Status.{Status}
use Rattle.asm_formats.specs.Among.{IsAmong}
use Rattle.asm_images.specs.Bridge.{disk_bytes, disks_in, ChangesSlot}
use Rattle.asm_images.specs.Kept.{IsMemberIn}
use Rattle.asm_images.specs.Members.{all_members}
use Rattle.asm_images.specs.Sound.{SoundBy}
use Rattle.asm_images.specs.Steps.{MayJoin}

-- the disk of a slot is attached, and long enough for a member's, of a group with this sector
pub record HasHeaderSlot (state : BayState) (slot sector : ℕ) : Type 0 where
  pub attached : IsSome (state.attached slot)
  pub sector_size : IsSectorSize sector
  pub long : least_size ≤ size_of state slot

-- the gates of a disk whose directory copy has so many pages
abbrev pub gates_of_disk : ℕ → List ℕ
gates_of_disk dir_blocks = header_gate ∷ 2 ∷ 4 ∷ 6 ∷ 8 ∷ first_log dir_blocks ∷ second_log dir_blocks ∷ []

-- The disk reaches to the end of such a region, and all its gates are shut.
pub record IsBlank (slot dir_blocks : ℕ) (image : Image) : Type 0 where
  pub long : region_end dir_blocks * block_size ≤ image.size slot
  pub shut : (gate : ℕ) → IsAmong (gates_of_disk dir_blocks) gate → is_open (disk_bytes image slot) gate ≡ false

-- ---- laws

-- The disks of n slots hold these groups under an id, by a history.
pub record History : Type 0 where
  pub slots : ℕ
  pub id : ℕ
  pub groups : List Group
  pub completed : Option Status
  pub begun : List Status

abbrev pub IsSoundByHistory : History → Image → Type 0
IsSoundByHistory history image = SoundBy history.id (disks_in history.slots image) history.groups history.completed history.begun

-- what is held stays so
abbrev pub KeepsSound : History → Image → Image → Type 0
KeepsSound history old new = IsSoundByHistory history old → IsSoundByHistory history new

-- A disk that is no member of an id afterwards may change in any way.
abbrev pub LeavingKeeps : Type 0
LeavingKeeps = (history : History) (slot : ℕ) (old new : Image) → ChangesSlot slot old new → (IsMemberIn history.id new slot → ⊥) → KeepsSound history old new

-- So it is where the image is made anew, of zeros, or that was begun.
abbrev pub MakingKeeps : Type 0
MakingKeeps = (history : History) (slot : ℕ) (old new : Image) → MayMake slot old new → KeepsSound history old new

-- a disk of so many bytes, and a sector of at most a block
abbrev pub IsRoom : ℕ → ℕ → Image → Type 0
IsRoom slot sector image = (sector ≤ block_size) × (least_size ≤ image.size slot)

-- At each moment while the gate of a header is closed every id keeps its groups.
abbrev pub HeaderClosingKeeps : Type 0
HeaderClosingKeeps =
    (history : History) (slot sector : ℕ) (old new : Image) → IsRoom slot sector old → MayClose (gated_slot_at 0 1 sector) slot old new → KeepsSound history old new

-- So it is while all gates of a disk are closed.
abbrev pub GatesClosingKeeps : Type 0
GatesClosingKeeps =
    (history : History) (slot sector dir_blocks : ℕ) (old new : Image) → IsRoom slot sector old → MayCloseAll slot sector dir_blocks old new → KeepsSound history old new

-- So it is while a blank disk gets a header, with which it may join the group of that id.
abbrev pub HeaderPuttingKeeps : Type 0
HeaderPuttingKeeps =
    (history : History) (slot : ℕ) (h : Header) (old new : Image) → IsTrue (is_header h) → IsBlank slot h.shape.dir_blocks old
    → (h.id ≡ history.id → MayJoin history.id (all_members history.id (disks_in history.slots old)) history.groups history.completed history.begun h)
    → MayPut (gated_slot_at 0 1 h.shape.sector) slot (header_spelling h) old new → KeepsSound history old new

-- A disk whose gates were closed and that has then got a header shows the header alone.
abbrev pub FormattedDisksShow : Type 0
FormattedDisksShow =
    (slot : ℕ) (h : Header) (old closed new : Image) → IsTrue (is_header h) → ClosesAll slot h.shape.sector h.shape.dir_blocks old closed
    → HasPut (gated_slot_at 0 1 h.shape.sector) slot (header_spelling h) closed new → HasHeader slot h.shape.sector h.shape.dir_blocks (header_spelling h) old new
