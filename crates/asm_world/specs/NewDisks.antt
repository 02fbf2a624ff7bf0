-- The disks that a creation or an ADD names: their names, failure groups, and what is wrong with them.
use Rattle.std.specs.Prelude.{ℕ, zero, suc, ◌+◌, ◌/◌, ◌%◌, Some, None, Bool, true, false, ◌&&◌, ◌||◌, ◌==◌, not, List, [], ◌∷◌, ◌++◌, length, map, take, unwrap_or, if◌then◌else◌}
use Rattle.std.specs.List.{list_any, flat_map, filter_map}
use Rattle.std.specs.Str.{bytes_eq}
use Rattle.asm_group.specs.declared.GroupKind.{GroupKind}
use Rattle.asm_group.specs.declared.GroupKind.TheVariants.{External, Normal, High}
use Rattle.asm_group.specs.Names.{Bytes, is_same_name}
use Rattle.asm_world.specs.Reports.{DiskRow}
use Rattle.asm_world.specs.Statement.{NewDisk, NewFailgroup}

-- a disk that is to join a group
pub record PlannedDisk : Type 0 where
  pub path : Bytes
  pub name : Bytes
  pub failgroup : Bytes
  pub quorum : Bool

abbrev pub four_digits : ℕ → Bytes
four_digits n = (n / 1000 % 10 + 48) ∷ (n / 100 % 10 + 48) ∷ (n / 10 % 10 + 48) ∷ (n % 10 + 48) ∷ []

-- the first 25 bytes of the group's name, `_` and the disk's number in four digits
abbrev pub usual_name : Bytes → ℕ → Bytes
usual_name group number = take 25 group ++ 95 ∷ four_digits number

-- each disk with the failure group that stands before it
abbrev pub disks_with_failgroups : List NewFailgroup → List (NewFailgroup × NewDisk)
disks_with_failgroups groups = flat_map (λ (g : NewFailgroup). map (λ (d : NewDisk). (g, d)) g.disks) groups

abbrev pub planned_disk : Bytes → ℕ → NewFailgroup → NewDisk → PlannedDisk
planned_disk group number g d =
    let name = unwrap_or d.name (usual_name group number) in
    record { path = d.path; name = name; failgroup = unwrap_or g.name name; quorum = g.quorum }

-- the disks take these numbers in turn
abbrev pub planned_with : Bytes → List ℕ → List (NewFailgroup × NewDisk) → List PlannedDisk
planned_with group numbers [] = []
planned_with group [] (d ∷ disks) = []
planned_with group (n ∷ numbers) (d ∷ disks) = planned_disk group n d.0 d.1 ∷ planned_with group numbers disks

-- as many numbers as asked for, from n on, that no disk has
abbrev pub numbers_from : ℕ → List DiskRow → List (NewFailgroup × NewDisk) → List ℕ
numbers_from n rows [] = []
numbers_from n rows (d ∷ disks) =
    let free = first_free (length rows) n rows in
    free ∷ numbers_from (free + 1) rows disks
  where
    is_number : ℕ → List DiskRow → Bool
    is_number n rows = list_any (λ (row : DiskRow). row.number == n) rows

    first_free : ℕ → ℕ → List DiskRow → ℕ
    first_free zero n rows = n
    first_free (suc tries) n rows = if is_number n rows then first_free tries (n + 1) rows else n

-- New disks take the least numbers that no disk of the group has.
abbrev pub planned : Bytes → List DiskRow → List NewFailgroup → List PlannedDisk
planned group rows groups = planned_with group (numbers_from 0 rows (disks_with_failgroups groups)) (disks_with_failgroups groups)

-- ---- names and paths given twice

-- two of them agree
abbrev pub has_pair : {A : Type 0} → (A → A → Bool) → List A → Bool
has_pair agree [] = false
has_pair agree (x ∷ xs) = list_any (agree x) xs || has_pair agree xs

abbrev pub is_same_bool : Bool → Bool → Bool
is_same_bool true b = b
is_same_bool false b = not b

-- one name, one path, or one failure group of two kinds
abbrev pub clash : PlannedDisk → PlannedDisk → Bool
clash a b = is_same_name a.name b.name || bytes_eq a.path b.path || (is_same_name a.failgroup b.failgroup && not (is_same_bool a.quorum b.quorum))

-- the name of a disk that is there, or its failure group with another kind
abbrev pub clashes_with : PlannedDisk → DiskRow → Bool
clashes_with a row = is_same_name a.name row.name || (is_same_name a.failgroup row.failgroup && not (is_same_bool a.quorum row.quorum))

-- NameTaken
abbrev pub is_name_taken : List DiskRow → List PlannedDisk → Bool
is_name_taken rows disks = has_pair clash disks || list_any (λ disk. list_any (λ row. clashes_with disk row) rows) disks

-- ---- failure groups

-- how many names there are, those that agree counted once
abbrev pub count_names : List Bytes → ℕ
count_names [] = 0
count_names (name ∷ names) = let others = count_names names in if list_any (λ other. is_same_name name other) names then others else others + 1

-- the regular failure groups
abbrev pub regular_groups : List PlannedDisk → ℕ
regular_groups disks = count_names (filter_map (λ (d : PlannedDisk). if d.quorum then None else Some d.failgroup) disks)

-- how many regular failure groups a group needs
abbrev pub needed_groups : GroupKind → ℕ
needed_groups External = 1
needed_groups Normal = 2
needed_groups High = 3
