-- What the reports show of a group's disks, by its status record and its tables.
use Rattle.std.specs.Prelude.{ℕ, ◌+◌, ◌-◌, Bool, true, false, ◌&&◌, ◌==◌, not, nat_le, List, [], length, map, filter, find, Option, Some, None, is_none, slice_get}
use Rattle.std.specs.Option.{is_some, option_map}
use Rattle.asm_group.specs.declared.Mode.{Mode}
use Rattle.asm_group.specs.declared.Mode.TheVariants.{Syncing}
use Rattle.asm_group.specs.Modes.{is_offline}
use Rattle.asm_group.specs.Names.{Bytes}
use Rattle.asm_group.specs.Shape.{Shape}
use Rattle.asm_formats.specs.Sets.{elements, has_bit}
use Rattle.asm_formats.specs.Status.{Entry, Status}
use Rattle.asm_formats.specs.Items.{DiskInfo, Item}
use Rattle.asm_placement.specs.Modes.{is_forced}
use Rattle.asm_placement.specs.Space.{total, used_units, user_units}
use Rattle.asm_world.specs.Below.{GroupBelow}
use Rattle.asm_world.specs.Reports.{GroupRow, DiskRow}
use Rattle.allocator.specs.UnitMaps.{UnitMap, total_of, used_of}
use Rattle.catalog_laws.specs.disk_directory.Disks.{info_at}
use Rattle.catalog_laws.specs.catalog_tables.Tables.{Catalogued, Tables}
use Rattle.extent_copies.specs.NewFiles.{serving_groups}
use Rattle.group_reports.specs.Extents.{all_extents, checked_of, file_units, first_lost}

abbrev pub is_syncing : Mode → Bool
is_syncing Syncing = true
is_syncing _ = false

-- ---- lsdg

-- the disk counts for a group's totals: it is regular and not Forced
abbrev pub is_counted : Entry → Bool
is_counted e = not e.quorum && not (is_forced e.mode)

abbrev pub counted_disks : List Entry → List Entry
counted_disks es = filter is_counted es

-- free user units of a disk, by the map at the place of its number
abbrev pub free_in : Option UnitMap → ℕ
free_in None = 0
free_in (Some m) = total_of m - used_of m

abbrev pub free_at : List UnitMap → Entry → ℕ
free_at ms e = free_in (slice_get ms e.number)

-- and by the records
abbrev pub free_units : Shape → List Item → Entry → ℕ
free_units s items e = user_units s e - used_units s items e.number

abbrev pub offline_disks : List Entry → ℕ
offline_disks es = length (filter (λ (e : Entry). is_offline e.mode) es)

-- the row of a group, where so many user units of a disk are free
abbrev pub row_by : (Entry → ℕ) → Option ℕ → List Entry → GroupRow
row_by free power es = record { rebalancing = is_some power; total = total (λ (e : Entry). e.units) (counted_disks es); free = total free (counted_disks es); offline = offline_disks es }

abbrev pub group_row : Catalogued → List Entry → GroupRow
group_row c es = row_by (free_at c.units) c.tables.operations.rebalance es

-- ---- lsdsk

-- the name and the failure group of a disk by its record, and no bytes where it has none
abbrev pub name_in : Option DiskInfo → Bytes
name_in None = []
name_in (Some info) = info.name

abbrev pub failgroup_in : Option DiskInfo → Bytes
failgroup_in None = []
failgroup_in (Some info) = info.failgroup

abbrev pub disk_name_in_tables : Tables → ℕ → Bytes
disk_name_in_tables t d = name_in (info_at t.disks d)

abbrev pub failgroup_name : Tables → ℕ → Bytes
failgroup_name t d = failgroup_in (info_at t.disks d)

abbrev pub row_of_disk : Catalogued → Entry → DiskRow
row_of_disk c e = record {
  number = e.number;
  mode = e.mode;
  failgroup = failgroup_name c.tables e.number;
  quorum = e.quorum;
  total = e.units;
  free = free_at c.units e;
  name = disk_name_in_tables c.tables e.number;
}

abbrev pub disk_rows : Catalogued → List Entry → List DiskRow
disk_rows c es = map (row_of_disk c) es

-- ---- what comes by itself

abbrev pub number_of_entry_if_any : Option Entry → Option ℕ
number_of_entry_if_any e = option_map (λ (e : Entry). e.number) e

-- the least Syncing disk
abbrev pub syncing : List Entry → Option ℕ
syncing es = number_of_entry_if_any (find (λ (e : Entry). is_syncing e.mode) es)

-- the time of an Offline disk is up
abbrev pub is_repair_time_up : ℕ → Entry → Bool
is_repair_time_up now e = is_offline e.mode && nat_le (e.since + e.repair) now

-- the only directory copy of the set is on the disk
abbrev pub holds_all : ℕ → ℕ → Bool
holds_all directories d = has_bit directories d && (length (elements directories) == 1)

-- it may be dropped by force: it has neither the only directory copy nor all current copies of an extent
abbrev pub may_go : Catalogued → Status → ℕ → Bool
may_go c r d = not (holds_all r.directories d) && is_none (first_lost r.entries c d)

-- the disk that expiry drops next at a time: the least of those whose time is up that may be dropped
abbrev pub expiring : Catalogued → Status → ℕ → Option ℕ
expiring c r now = number_of_entry_if_any (find (λ (e : Entry). is_repair_time_up now e && may_go c r e.number) r.entries)

-- a rebalance is active with a power of at least 1
abbrev pub is_moving : Option ℕ → Bool
is_moving None = false
is_moving (Some power) = nat_le 1 power

-- ---- all of it

-- What lies below the world of a mounted group, by its catalog and its status record, with these slots attached, at a time.
abbrev pub below_of : Catalogued → Status → List ℕ → ℕ → GroupBelow
below_of c r attached now = record {
  failgroups = serving_groups r.entries;
  expiring = option_map (disk_name_in_tables c.tables) (expiring c r now);
  syncing = option_map (disk_name_in_tables c.tables) (syncing r.entries);
  moving = is_moving c.tables.operations.rebalance;
  attached = attached;
  row = group_row c r.entries;
  disks = disk_rows c r.entries;
  units = file_units c;
  extents = length (all_extents c);
  not_full = (checked_of r.entries (all_extents c)).not_full;
}
