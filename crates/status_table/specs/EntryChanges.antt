-- How the code changes entries, one after another.
use Rattle.std.specs.Prelude.{ℕ, ◌==◌, nat_lt, if◌then◌else◌}
use Rattle.asm_formats.specs.asm_group.declared.Mode.TheVariants.{Offline}
use Rattle.asm_formats.specs.Status.{Entry}
use Rattle.status_table.specs.declared.entries.EntryChange.{EntryChange}
use Rattle.status_table.specs.declared.entries.EntryChange.TheVariants.{InMode, OfflineFor, WithUnits, WithRepair}

abbrev pub entry_after_change : EntryChange → Entry → Entry
entry_after_change (InMode mode since) e = record e { mode = mode; since = since }
entry_after_change (OfflineFor since repair) e = record e { mode = Offline; since = since; repair = repair }
entry_after_change (WithUnits units) e = record e { units = units }
entry_after_change (WithRepair repair) e = record e { repair = repair }

-- the entry, changed if it is the disk's
abbrev pub entry_with : ℕ → EntryChange → Entry → Entry
entry_with disk change e = if e.number == disk then entry_after_change change e else e

-- that of the lesser number first
abbrev pub lower_number_first : Entry → Entry → Entry × Entry
lower_number_first left e = if nat_lt left.number e.number then (left, e) else (e, left)
