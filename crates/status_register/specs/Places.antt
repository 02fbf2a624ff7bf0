-- The claim and status slots of a disk.
use Rattle.std.specs.Prelude.{◌≡◌, ◌⊎◌, ℕ, ◌+◌, ◌*◌, ◌≤◌, IsSome}
use Rattle.bay.specs.State.{BayState, size_of}
use Rattle.body_slot.specs.Slot.{IsSectorSize}
use Rattle.body_slot.specs.declared.place.Place.{Place}
use Rattle.asm_formats.specs.Bytes.{block_size}
use Rattle.asm_formats.specs.Regions.{least_size}

-- the gate in a block, and its body in the block behind it
abbrev pub gated_block_at : ℕ → ℕ → Place
gated_block_at gate sector = record { gate = gate * block_size; body = (gate + 1) * block_size; len = block_size; sector = sector }

-- The disk of a slot is attached, and has claim and status slots.
pub record HasSlots (state : BayState) (slot sector : ℕ) : Type 0 where
  pub attached : IsSome (state.attached slot)
  pub sector_size : IsSectorSize sector
  pub long : least_size ≤ size_of state slot
