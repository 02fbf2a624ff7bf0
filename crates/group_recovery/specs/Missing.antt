-- Which disks of a record are missing.
use Rattle.std.specs.Prelude.{ℕ, ◌*◌, ◌==◌, ◌&&◌, not, nat_le, Bool, List, find, Option}
use Rattle.std.specs.List.{list_any}
use Rattle.asm_formats.specs.Status.{Entry}
use Rattle.asm_placement.specs.Modes.{serves}
use Rattle.group_recovery.specs.declared.finding.Headed.{Headed}

-- one of the images is the disk of the entry: a member of the id of its number and birth, with at least its units
abbrev pub is_disk_of : ℕ → Entry → Headed → Bool
is_disk_of id e h =
    (h.header.id == id) && ((h.header.number == e.number) && ((h.header.birth == e.birth) && nat_le (e.units * h.header.shape.au) h.size))

-- the image has the number of the entry, and at least its units
abbrev pub has_units_of : Headed → Entry → Bool
has_units_of h e = (h.header.number == e.number) && nat_le (e.units * h.header.shape.au) h.size

-- it has at least the units that the entry of its number has
abbrev pub has_units : List Entry → Headed → Bool
has_units entries h = list_any (has_units_of h) entries

abbrev pub has_disk_of_entry : ℕ → List Headed → Entry → Bool
has_disk_of_entry id hs e = list_any (is_disk_of id e) hs

-- the entry's disk is missing: it would serve, and none of the images is that disk
abbrev pub is_missing : ℕ → List Headed → Entry → Bool
is_missing id hs e = serves e.mode && not (has_disk_of_entry id hs e)

-- the least number whose disk is missing; entries stand in the order of their numbers
abbrev pub first_missing : ℕ → List Headed → List Entry → Option Entry
first_missing id hs entries = find (is_missing id hs) entries
