-- Bytes of units of an attached disk that a call may write.
use Rattle.std.specs.Prelude.{◌≡◌, ℕ, ◌+◌, ◌*◌, ◌<◌, ◌≤◌, ◌^◌, Some}
use Rattle.bay.specs.State.{IsOnSectors}
use Rattle.asm_formats.specs.Bytes.{block_size}
use Rattle.asm_formats.specs.Items.{Home}
use Rattle.asm_formats.specs.Regions.{region_end, reserved_units}
use Rattle.record_laws.specs.group_engine.Mounts.{MountedGroup, slot_at}
use Rattle.group_pieces.specs.declared.copies.Place.{Place}
use Rattle.group_pieces.specs.Usable.{size_at}

-- n bytes from an inner byte on of so many units of an attached disk, behind the reserved ones and on sectors
pub record IsRunOf (m : MountedGroup) (h : Home) (units inner n : ℕ) : Type 0 where
  pub number : h.disk < 64
  pub slot : ℕ
  pub at : slot_at m.disks h.disk ≡ Some slot
  pub size : ℕ
  pub sized : size_at m.disks h.disk ≡ Some size
  pub reserved : reserved_units m.catalog.shape ≤ h.unit
  pub room : (h.unit + units) * m.catalog.shape.au ≤ size
  pub inside : inner + n ≤ units * m.catalog.shape.au
  pub short : inner < 2 ^ 32
  pub sectors : IsOnSectors inner n

-- what happens on the slot of an attached disk
abbrev pub OnDisk : MountedGroup → ℕ → (ℕ → Type 0) → Type 0
OnDisk m d P = (slot : ℕ) → slot_at m.disks d ≡ Some slot → P slot

-- n bytes at a place of an attached disk, behind its directory region and on sectors
pub record IsRunAt (m : MountedGroup) (n : ℕ) (p : Place) : Type 0 where
  pub slot : slot_at m.disks p.disk ≡ Some p.slot
  pub size : ℕ
  pub sized : size_at m.disks p.disk ≡ Some size
  pub behind : region_end m.catalog.shape.dir_blocks * block_size ≤ p.at
  pub inside : p.at + n ≤ size
  pub sectors : IsOnSectors p.at n
