-- The units that disks have by their images, and that a RESIZE gives them.
use Rattle.std.specs.Prelude.{◌≡◌, ℕ, ◌-◌, ◌^◌, ◌/◌, ◌==◌, ◌&&◌, nat_lt, not, min, Bool, List, map, get_or, Option, Some, None, if◌then◌else◌}
use Rattle.std.specs.Option.{option_map}
use Rattle.asm_group.specs.Shape.{Shape}
use Rattle.asm_formats.specs.Sets.{has_bit}
use Rattle.asm_formats.specs.Status.{Entry, Status}
use Rattle.status_table.specs.Changes.{status_with_units}
use Rattle.record_laws.specs.group_engine.declared.attached.Attached.{Attached}
use Rattle.record_laws.specs.group_engine.Mounts.{MountedGroup}
use Rattle.disk_modes.specs.declared.sizes.Asked.{Asked}
use Rattle.disk_modes.specs.Directories.{IsSubset}
use Rattle.disk_modes.specs.Effects.{with_rebalance_power}

-- the whole units in so many bytes
abbrev pub whole_units_in : Shape → ℕ → ℕ
whole_units_in s bytes = if s.au == 0 then 0 else bytes / s.au

-- the most units of a disk
abbrev pub most : ℕ
most = 16777216

-- the units of an image of this size, and none where there is no image
abbrev pub units_of_size : Shape → Option ℕ → ℕ
units_of_size s None = 0
units_of_size s (Some size) = min (whole_units_in s size) most

-- of an attached disk
abbrev pub image_units : Shape → List (Option Attached) → ℕ → ℕ
image_units s disks d = if nat_lt d 64 then units_of_size s (option_map (λ (a : Attached). a.size) (get_or disks d None)) else 0

-- the units that a disk is to have: those of the size that is said, or of its image
abbrev pub units_asked : Shape → List (Option Attached) → Option ℕ → ℕ → ℕ
units_asked s disks None d = image_units s disks d
units_asked s disks (Some said) d = whole_units_in s said

-- the entry of a disk with the units that it is to have
abbrev pub entry_resized : Shape → List (Option Attached) → Asked → Entry → Entry
entry_resized s disks asked e = if has_bit asked.disks e.number then record e { units = units_asked s disks asked.size e.number } else e

-- The disks have the units that they are to have, and a rebalance is active.
pub record ResizesDisks (disks : ℕ) (size : Option ℕ) (power : ℕ) (old new : MountedGroup) : Type 0 where
  pub tables : new.catalog.tables ≡ with_rebalance_power old.catalog.tables (Some power)
  pub entries : new.register.value.entries ≡ map (entry_resized old.catalog.shape old.disks (record { disks = disks; size = size })) old.register.value.entries
  pub copies : IsSubset new.register.value.directories old.register.value.directories

-- ---- the record with the units

-- as many as a number of 32 bits may say
abbrev pub capped_units : ℕ → ℕ
capped_units units = min units (2 ^ 32 - 1)

abbrev pub entry_capped : Shape → List (Option Attached) → Asked → Entry → Entry
entry_capped s disks asked e = if has_bit asked.disks e.number then record e { units = capped_units (units_asked s disks asked.size e.number) } else e

-- the record is the one that holds, where the disks have their units
abbrev pub HasAsked : Asked → MountedGroup → Status → Type 0
HasAsked asked m next = next ≡ record m.register.value { entries = map (entry_capped m.catalog.shape m.disks asked) m.register.value.entries }

-- one disk is given its units
abbrev pub status_resized : MountedGroup → Asked → ℕ → Status → Status
status_resized m asked d r = if has_bit asked.disks d then status_with_units r d (capped_units (units_asked m.catalog.shape m.disks asked.size d)) else r

-- the disk is to have other units than it has
abbrev pub is_other : Shape → List (Option Attached) → Asked → Entry → Bool
is_other s disks asked e = has_bit asked.disks e.number && not (units_asked s disks asked.size e.number == e.units)

-- The disks have the units that they are to have, and the tables stay.
pub record PutsUnits (asked : Asked) (old new : MountedGroup) : Type 0 where
  pub tables : new.catalog.tables ≡ old.catalog.tables
  pub entries : new.register.value.entries ≡ map (entry_resized old.catalog.shape old.disks asked) old.register.value.entries
  pub copies : new.register.value.directories ≡ old.register.value.directories
