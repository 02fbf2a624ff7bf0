-- The failure groups of new disks, and those that statements name.
use Rattle.std.specs.Prelude.{Bool, ◌&&◌, not, List, Option, Some, None, if◌then◌else◌}
use Rattle.std.specs.List.{filter_map, list_any}
use Rattle.asm_group.specs.Names.{Bytes, is_same_name}
use Rattle.asm_world.specs.Causes.{is_of_kind}
use Rattle.asm_world.specs.NewDisks.{PlannedDisk}
use Rattle.asm_world.specs.Reports.{DiskRow}
use Rattle.asm_world.specs.Statement.{FailgroupKind}

-- the names of the regular failure groups of new disks, disk by disk
abbrev pub regular_names : List PlannedDisk → List Bytes
regular_names disks = filter_map (λ (d : PlannedDisk). if d.quorum then None else Some d.failgroup) disks

-- the disk is of a regular failure group, and none of the others is of that
abbrev pub adds_group : PlannedDisk → List PlannedDisk → Bool
adds_group d others = not d.quorum && not (list_any (is_same_name d.failgroup) (regular_names others))

-- the disk is in the failure group of this name, and that is of the kind said
abbrev pub is_row_in : Option FailgroupKind → Bytes → DiskRow → Bool
is_row_in kind name row = is_same_name row.failgroup name && is_of_kind kind row.quorum
