-- From an image of the bay, which is functions of slot and place, to the disks of its first slots, each a list of bytes.
use Rattle.std.specs.Prelude.{◌≡◌, ◌≢◌, ◌⊎◌, ℕ, ◌+◌, ◌*◌, ◌==◌, if◌then◌else◌, Option, Some, None, ◌<◌, ◌≤◌, List, [], length, map, replicate, get_or, slice_index}
use Rattle.std.specs.List.{range_with_len}
use Rattle.bay.specs.Image as bay
use Rattle.bay.specs.Image.{window, Range, Same, ChangesOnly, Makes}
use Rattle.asm_formats.specs.Bytes.{block_size, open_byte, piece}
use Rattle.asm_formats.specs.Slots.{IsPut}
use Rattle.asm_formats.specs.Places.{SameElsewhere}
use Rattle.asm_images.specs.Members.{ImageBytes, written}

-- the bytes of the disk in a slot
abbrev pub disk_bytes : bay.Image → ℕ → List ℕ
disk_bytes image slot = window (image.byte slot) 0 (image.size slot)

-- the disks of so many slots
unfoldable pub disks_in : ℕ → bay.Image → ImageBytes
disks_in slots image = map (disk_bytes image) (range_with_len 0 slots)

-- Each slot's disk is the list of its bytes.
abbrev pub DisksAreListed : Type 0
DisksAreListed =
    (slots slot : ℕ) (image : bay.Image) → slot < slots
    → (length (disks_in slots image) ≡ slots) × (get_or (disks_in slots image) slot [] ≡ disk_bytes image slot)

-- A disk's list has its length and its bytes, and any part of it is the window there.
abbrev pub BytesAreListed : Type 0
BytesAreListed =
    (image : bay.Image) (slot : ℕ)
    → (length (disk_bytes image slot) ≡ image.size slot)
    × ((k : ℕ) → k < image.size slot → slice_index (disk_bytes image slot) k ≡ image.byte slot k)
    × ((at n : ℕ) → at + n ≤ image.size slot → piece (disk_bytes image slot) at n ≡ window (image.byte slot) at n)

-- all disks but that of one slot are as they were
pub record ChangesSlot (slot : ℕ) (old new : bay.Image) : Type 0 where
  pub size : (s : ℕ) → s ≢ slot → new.size s ≡ old.size s
  pub byte : (s k : ℕ) → s ≢ slot → new.byte s k ≡ old.byte s k

-- A change of one slot's disk, also of its size, changes that list alone.
abbrev pub SlotChangeIsWritten : Type 0
SlotChangeIsWritten =
    (slots slot : ℕ) (old new : bay.Image) → ChangesSlot slot old new
    → disks_in slots new ≡ written (disks_in slots old) slot (disk_bytes new slot)

-- A change in one range of one slot's disk changes that list alone, and there the range alone.
abbrev pub RangeChangeIsWritten : Type 0
RangeChangeIsWritten =
    (slots slot at n : ℕ) (old new : bay.Image) → ChangesOnly (Range slot at n) old new
    → (disks_in slots new ≡ written (disks_in slots old) slot (disk_bytes new slot)) × SameElsewhere (disk_bytes old slot) (disk_bytes new slot) at n

-- A change in slots beyond these changes none of these disks.
abbrev pub BeyondIsUnseen : Type 0
BeyondIsUnseen = (slots slot : ℕ) (old new : bay.Image) → slots ≤ slot → ChangesSlot slot old new → disks_in slots new ≡ disks_in slots old

-- Images with the same disks have the same lists.
abbrev pub SameIsSame : Type 0
SameIsSame = (slots : ℕ) (old new : bay.Image) → Same old new → disks_in slots new ≡ disks_in slots old

-- A disk that is made is zeros.
abbrev pub MadeIsZeros : Type 0
MadeIsZeros =
    (slots slot n : ℕ) (old new : bay.Image) → Makes slot n old new
    → disks_in slots new ≡ written (disks_in slots old) slot (replicate n 0)

-- ---- slots

-- what the slot behind the gate in block k shows: the block behind it, where the gate is open
abbrev pub shown_block : bay.Image → ℕ → ℕ → Option (List ℕ)
shown_block image slot k = if image.byte slot (k * block_size) == open_byte then Some (window (image.byte slot) ((k + 1) * block_size) block_size) else None

-- A change inside a slot's two blocks, after which it shows what it did, nothing or a body, is a moment of putting that body.
abbrev pub ShownIsPut : Type 0
ShownIsPut =
    (old new : bay.Image) (slot k : ℕ) (body : List ℕ) → (k + 2) * block_size ≤ old.size slot → ChangesOnly (Range slot (k * block_size) (2 * block_size)) old new
    → (shown_block new slot k ≡ shown_block old slot k) ⊎ ((shown_block new slot k ≡ None) ⊎ (shown_block new slot k ≡ Some body))
    → IsPut (disk_bytes old slot) (disk_bytes new slot) k body
