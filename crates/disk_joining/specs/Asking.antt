-- The disks that an ADD names, and what is known of those that are there.
use Rattle.std.specs.Prelude.{◌≡◌, ℕ, zero, suc, ◌+◌, ◌-◌, List, [], ◌∷◌, ◌++◌, map, Option, if◌then◌else◌}
use Rattle.std.specs.List.{filter_map}
use Rattle.std.specs.Option.{option_map}
use Rattle.asm_formats.specs.Items.{DiskInfo}
use Rattle.asm_formats.specs.Status.{Entry, has_entry}
use Rattle.asm_group.specs.Names.{Bytes}
use Rattle.asm_world.specs.NewDisks.{PlannedDisk, planned_disk}
use Rattle.asm_world.specs.Reports.{DiskRow}
use Rattle.asm_world.specs.Statement.{NewDisk, NewFailgroup}
use Rattle.new_groups.specs.disk_directory.Disks.{Disk, info_at}
use Rattle.file_extents.specs.group_engine.Mounts.{MountedGroup}
use Rattle.file_extents.specs.group_engine.declared.attached.Attached.{Attached}
use Rattle.new_groups.specs.declared.asked.Known.{Known}
use Rattle.new_groups.specs.declared.asked.Taken.{Taken}

-- ---- numbers

-- the least number from n on that no entry has, of so many that are tried, and 64 where there is none
abbrev pub first_without : ℕ → ℕ → List Entry → ℕ
first_without zero n es = 64
first_without (suc tries) n es = if has_entry es n then first_without tries (n + 1) es else n

-- the least number from n on that no entry has, and 64 where there is none
unfoldable pub free_number : List Entry → ℕ → ℕ
free_number es n = first_without (64 - n) n es

-- the least number that may come next, once disks have got theirs from n on
abbrev pub number_after : List Entry → ℕ → List NewDisk → ℕ
number_after es n [] = n
number_after es n (d ∷ ds) = number_after es (free_number es n + 1) ds

-- ---- disks

-- the disks of a failure group, in a group of this name, with numbers from n on
abbrev pub asked_in : Bytes → List Entry → ℕ → NewFailgroup → List NewDisk → List PlannedDisk
asked_in name es n g [] = []
asked_in name es n g (d ∷ ds) = planned_disk name (free_number es n) g d ∷ asked_in name es (free_number es n + 1) g ds

-- the disks of failure groups, with numbers from n on
abbrev pub asked_from : Bytes → List Entry → ℕ → List NewFailgroup → List PlannedDisk
asked_from name es n [] = []
asked_from name es n (g ∷ gs) = asked_in name es n g g.disks ++ asked_from name es (number_after es n g.disks) gs

-- the numbers that disks of a failure group are given, from n on, and those of failure groups
abbrev pub given_in : List Entry → ℕ → List NewDisk → List ℕ
given_in es n [] = []
given_in es n (d ∷ ds) = free_number es n ∷ given_in es (free_number es n + 1) ds

abbrev pub given_from : List Entry → ℕ → List NewFailgroup → List ℕ
given_from es n [] = []
given_from es n (g ∷ gs) = given_in es n g.disks ++ given_from es (number_after es n g.disks) gs

-- The numbers of the disks of a statement: each the least that no entry and no disk before it has.
abbrev pub given_numbers : MountedGroup → List NewFailgroup → List ℕ
given_numbers m groups = given_from m.register.value.entries 0 groups

-- The disks of a statement in its order, with the names that they get by these numbers.
abbrev pub asked_disks : MountedGroup → List NewFailgroup → List PlannedDisk
asked_disks m groups = asked_from m.name m.register.value.entries 0 groups

-- ---- what is there

-- a disk of the group by its entry and its record; what it holds is asked of none
abbrev pub row_of : List Disk → Entry → Option DiskRow
row_of disks e = option_map (λ (i : DiskInfo). record { number = e.number; mode = e.mode; failgroup = i.failgroup; quorum = e.quorum; total = 0; free = 0; name = i.name }) (info_at disks e.number)

abbrev pub group_rows : MountedGroup → List DiskRow
group_rows m = filter_map (row_of m.catalog.tables.disks) m.register.value.entries

-- the slots of the attached disks
abbrev pub own_slots : List (Option Attached) → List ℕ
own_slots disks = filter_map (λ (o : Option Attached). option_map (λ (a : Attached). a.slot) o) disks

-- the disks of a group's entries
abbrev pub own_disks : ℕ → List Entry → List Taken
own_disks id es = map (λ (e : Entry). record { id = id; number = e.number; birth = e.birth }) es

-- What is known of the groups of the session, with a group more.
pub record IsKnownWith (m : MountedGroup) (known all : Known) : Type 0 where
  pub held : all.held.items ≡ known.held.items ++ own_slots m.disks
  pub taken : all.taken.items ≡ known.taken.items ++ own_disks m.register.value.id m.register.value.entries
