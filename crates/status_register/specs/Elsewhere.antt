-- What a register keeps over the calls of others, and over a disk that is attached.
use Rattle.std.specs.Prelude.{◌≡◌, ◌⊎◌, ℕ, ◌*◌, ◌<◌, List, [], get_or, set, Option, Some, None}
use Rattle.bay.specs.Image.{Image}
use Rattle.asm_formats.specs.Among.{IsAmong}
use Rattle.asm_formats.specs.Bytes.{block_size}
use Rattle.asm_formats.specs.Header.{Header}
use Rattle.asm_formats.specs.Metadata.{header_of}
use Rattle.asm_formats.specs.Regions.{region_start}
use Rattle.asm_formats.specs.Status.{Status}
use Rattle.asm_images.specs.Bridge.{disk_bytes, disks_in}
use Rattle.asm_images.specs.Members.{AreDistinct, all_members, statuses}
use Rattle.status_register.specs.Keeping.{FitsWith, HasHistory}
use Rattle.status_register.specs.Registered.{Registered}
use Rattle.status_register.specs.SurveyLaws.{IsMemberOn}
use Rattle.status_register.specs.declared.member.Member.{Member}

-- the disk in a slot has its size and the blocks in front of its directory region: header, claim slots and status slots
pub record SameFront (slot : ℕ) (old new : Image) : Type 0 where
  pub size : new.size slot ≡ old.size slot
  pub byte : (k : ℕ) → k < region_start * block_size → new.byte slot k ≡ old.byte slot k

-- the disk in a slot is no member of the group
abbrev pub IsNoMember : ℕ → ℕ → Image → Type 0
IsNoMember id slot image = (h : Header) → header_of (disk_bytes image slot) ≡ Some h → h.id ≡ id → ⊥

-- Each disk of the first slots keeps its front, or is no member of the group before and after.
abbrev pub LeavesRegister : ℕ → ℕ → Image → Image → Type 0
LeavesRegister slots id old new = (slot : ℕ) → slot < slots → SameFront slot old new ⊎ (IsNoMember id slot old × IsNoMember id slot new)

-- An image after such a step has the history of the register that it had before.
abbrev pub HistoryStays : Type 0
HistoryStays =
    (slots : ℕ) (register : Registered) (completed : Option Status) (begun : List Status) (x y : Image) → LeavesRegister slots register.id x y
    → HasHistory slots register completed begun x → HasHistory slots register completed begun y

-- The same of a history without a register, and of members.
abbrev pub FitsStay : Type 0
FitsStay =
    (slots id : ℕ) (ms : List Member) (completed : Option Status) (begun : List Status) (x y : Image) → LeavesRegister slots id x y
    → FitsWith slots id ms completed begun x → FitsWith slots id ms completed begun y

-- Members that no two slots have, none with a record of the group, fit the history in which there is none.
abbrev pub NoRecordsFit : Type 0
NoRecordsFit =
    (slots id : ℕ) (ms : List Member) (image : Image) → AreDistinct (all_members id (disks_in slots image))
    → ((r : Status) → IsAmong (statuses id (all_members id (disks_in slots image))) r → ⊥)
    → ((m : Member) → IsAmong ms m → IsMemberOn slots id image m) → FitsWith slots id ms None [] image

-- the register with a member in its number's place
abbrev pub with_attached : Registered → Member → Registered
with_attached register m = record register { members = set register.members m.number (Some m) }

-- the register with no member of a number
abbrev pub without_attached : Registered → ℕ → Registered
without_attached register number = record register { members = set register.members number None }

-- no attached member of another number has the member's slot
abbrev pub IsApartFrom : Registered → Member → Type 0
IsApartFrom register m = (i : ℕ) (n : Member) → get_or register.members i None ≡ Some n → n.slot ≡ m.slot → i ≡ m.number
