-- Which disks a statement means.
use Rattle.std.specs.Prelude.{◌≡◌, ℕ, ◌<◌, ◌==◌, ◌&&◌, nat_lt, not, is_some, Bool, true, false, List, Option, Some, None}
use Rattle.std.specs.List.{list_any}
use Rattle.asm_group.specs.Names.{Bytes, is_same_name}
use Rattle.asm_formats.specs.Items.{DiskInfo}
use Rattle.asm_formats.specs.Sets.{has_bit}
use Rattle.asm_formats.specs.Status.{Entry}
use Rattle.asm_placement.specs.Modes.{serves}
use Rattle.group_reports.specs.disk_directory.Disks.{info_at}
use Rattle.group_reports.specs.catalog_tables.Tables.{Catalogued}
use Rattle.record_laws.specs.group_engine.Mounts.{MountedGroup, slot_at}
use Rattle.disk_modes.specs.declared.finding.GroupSort.{GroupSort}
use Rattle.disk_modes.specs.declared.finding.GroupSort.TheVariants as sort

-- the set has the disks whose entries pass
abbrev pub IsSetOf : (Entry → Bool) → List Entry → ℕ → Type 0
IsSetOf test es set = (d : ℕ) → d < 64 → has_bit set d ≡ list_any (λ (e : Entry). (d == e.number) && test e) es

-- the record is there, and has the name, or names the failure group, in any case of letters
abbrev pub is_called : Bytes → Option DiskInfo → Bool
is_called name None = false
is_called name (Some info) = is_same_name info.name name

abbrev pub has_failgroup_name : Bytes → Option DiskInfo → Bool
has_failgroup_name name None = false
has_failgroup_name name (Some info) = is_same_name info.failgroup name

-- the record of the entry's disk is so
abbrev pub has_disk_name : Catalogued → Bytes → Entry → Bool
has_disk_name c name e = is_called name (info_at c.tables.disks e.number)

abbrev pub is_in_named_failgroup : Catalogued → Bytes → Entry → Bool
is_in_named_failgroup c name e = has_failgroup_name name (info_at c.tables.disks e.number)

-- a statement means failure groups that are quorum ones, or aren't
abbrev pub takes : GroupSort → Bool → Bool
takes sort.Any quorum = true
takes sort.Regular quorum = not quorum
takes sort.Quorum quorum = quorum

abbrev pub is_in_failgroup_of_sort : Catalogued → GroupSort → Bytes → Entry → Bool
is_in_failgroup_of_sort c of name e = takes of e.quorum && is_in_named_failgroup c name e

-- a disk of that number is attached
abbrev pub is_attached : MountedGroup → ℕ → Bool
is_attached m d = nat_lt d 64 && is_some (slot_at m.disks d)

-- the set has the attached disks
abbrev pub HasAttachedDisks : MountedGroup → ℕ → Type 0
HasAttachedDisks m set = (d : ℕ) → d < 64 → has_bit set d ≡ is_attached m d

-- the disk serves
abbrev pub is_serving : MountedGroup → Entry → Bool
is_serving m e = serves e.mode && is_attached m e.number
