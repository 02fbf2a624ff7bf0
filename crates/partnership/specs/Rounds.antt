-- Disks that are taken in rounds over the failure groups.
use Rattle.std.specs.Prelude.{ℕ, ◌-◌, List, take, drop, map, flat_map, if◌then◌else◌, ◌==◌, Option, Some, None}
use Rattle.asm_formats.specs.Status.{Entry}
use Rattle.asm_placement.specs.DiskSets.{with_bit, by_group}
use Rattle.partnership.specs.declared.choice.Choice.{Choice}

-- none so far, of so many
abbrev pub none_of : ℕ → Choice
none_of count = record { set = 0; left = count }

-- a disk more, while some are left to take
abbrev pub with_disk : Choice → Entry → Choice
with_disk c e = if c.left == 0 then c else record { set = with_bit c.set e.number; left = c.left - 1 }

abbrev pub with_found : Choice → Option Entry → Choice
with_found c None = c
with_found c (Some e) = with_disk c e

-- the next disk of each failure group, once so many of each are taken
abbrev pub round : ℕ → List Entry → List Entry
round k es = flat_map (take 1) (map (drop k) (by_group es))
