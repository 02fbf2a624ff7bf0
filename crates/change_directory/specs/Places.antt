-- Where a directory copy and its log slots lie on a disk.
use Rattle.std.specs.Prelude.{◌≡◌, ◌⊎◌, ℕ, ◌+◌, ◌*◌, ◌≤◌, IsSome}
use Rattle.bay.specs.Image.{Range}
use Rattle.bay.specs.State.{BayState, size_of}
use Rattle.body_slot.specs.Slot.{IsSectorSize}
use Rattle.body_slot.specs.declared.place.Place.{Place}
use Rattle.asm_formats.specs.Bytes.{block_size}
use Rattle.asm_formats.specs.Regions.{region_start, region_end, first_log, second_log}
use Rattle.change_directory.specs.declared.copy.DirCopy.{DirCopy}
use Rattle.change_directory.specs.declared.copy.LogSlot.{LogSlot}
use Rattle.change_directory.specs.declared.copy.LogSlot.TheVariants.{First, Second}

-- the disk is attached, its sector and its number of pages are some of a group, and the copy's blocks lie inside the image
pub record IsCopy (state : BayState) (copy : DirCopy) : Type 0 where
  pub attached : IsSome (state.attached copy.slot)
  pub sector_size : IsSectorSize copy.sector
  pub least : 128 ≤ copy.dir_blocks
  pub most : copy.dir_blocks ≤ 16384
  pub inside : region_end copy.dir_blocks * block_size ≤ size_of state copy.slot

abbrev pub other_of : LogSlot → LogSlot
other_of First = Second
other_of Second = First

-- the block of a log slot's gate
abbrev pub gate_of : DirCopy → LogSlot → ℕ
gate_of copy First = first_log copy.dir_blocks
gate_of copy Second = second_log copy.dir_blocks

-- a log slot of which so many blocks behind the gate are meant
abbrev pub log_place : DirCopy → LogSlot → ℕ → Place
log_place copy log blocks = record { gate = gate_of copy log * block_size; body = (gate_of copy log + 1) * block_size; len = blocks * block_size; sector = copy.sector }

-- the bytes of one page at home
abbrev pub HomeOf : DirCopy → ℕ → ℕ → ℕ → Type 0
HomeOf copy page = Range copy.slot ((region_start + page) * block_size) block_size

-- the bytes of all pages at home
abbrev pub HomesAt : DirCopy → ℕ → ℕ → Type 0
HomesAt copy = Range copy.slot (region_start * block_size) (copy.dir_blocks * block_size)
