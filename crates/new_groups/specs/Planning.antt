-- The disks of a creation in the order of the statement.
use Rattle.std.specs.Prelude.{ℕ, ◌+◌, List, [], ◌∷◌, ◌++◌, length}
use Rattle.asm_group.specs.Names.{Bytes}
use Rattle.asm_world.specs.NewDisks.{PlannedDisk, planned_disk}
use Rattle.asm_world.specs.Statement.{NewDisk, NewFailgroup}

-- the disks of a failure group, behind so many others
abbrev pub planned_in : Bytes → ℕ → NewFailgroup → List NewDisk → List PlannedDisk
planned_in group n g [] = []
planned_in group n g (d ∷ ds) = planned_disk group n g d ∷ planned_in group (n + 1) g ds

-- the disks of failure groups, behind so many others
abbrev pub planned_after : Bytes → ℕ → List NewFailgroup → List PlannedDisk
planned_after group n [] = []
planned_after group n (g ∷ gs) = planned_in group n g g.disks ++ planned_after group (n + length g.disks) gs

-- how many disks failure groups have
abbrev pub disk_count : List NewFailgroup → ℕ
disk_count [] = 0
disk_count (g ∷ gs) = length g.disks + disk_count gs
