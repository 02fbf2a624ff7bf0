-- Which disks hold status tables and directory copies: at a creation, and when they are to move.
use Rattle.std.specs.Prelude.{ℕ, zero, suc, Bool, ◌&&◌, ◌||◌, not, List, [], ◌++◌, length, take, drop, find, filter, map, flat_map, if◌then◌else◌, nat_lt, nat_le, ◌==◌, Option, Some, None, min}
use Rattle.std.specs.List.{list_any}
use Rattle.std.specs.Option.{option_map}
use Rattle.asm_formats.specs.asm_group.declared.GroupKind.{GroupKind}
use Rattle.asm_formats.specs.asm_group.declared.GroupKind.TheVariants.{External, Normal, High}
use Rattle.asm_formats.specs.Sets.{has_bit, elements}
use Rattle.asm_formats.specs.Status.{Status, Entry, entry_of}
use Rattle.asm_placement.specs.Modes.{is_online, leaves, stays, is_target, mode_is}
use Rattle.asm_placement.specs.DiskSets.{is_among, set_of, numbers, distinct_failgroups, by_group}

-- ---- status tables

-- how many there are in a group of so many disks
abbrev pub table_count : GroupKind → ℕ → ℕ
table_count External n = 1
table_count Normal n = if nat_le 3 n then 3 else 1
table_count High n = if nat_le 5 n then 5 else 3

-- round after round the next disk of each failure group
abbrev pub in_rounds : ℕ → List (List Entry) → List Entry
in_rounds zero groups = []
in_rounds (suc k) groups = flat_map (take 1) groups ++ in_rounds k (map (drop 1) groups)

-- the disks in rounds over the failure groups, quorum groups first
abbrev pub rounds : List Entry → List Entry
rounds es = in_rounds (length es) (by_group (filter (λ (e : Entry). e.quorum) es) ++ by_group (filter (λ (e : Entry). not e.quorum) es))

-- the holders of a group's tables over these disks, by ascending number
unfoldable pub table_set : GroupKind → List Entry → ℕ
table_set kind es = set_of (numbers (take (table_count kind (length es)) (rounds es)))

-- the due set: over the Online disks
abbrev pub due_set : GroupKind → List Entry → ℕ
due_set kind es = table_set kind (filter (λ (e : Entry). is_online e.mode) es)

abbrev pub size_of_set : ℕ → ℕ
size_of_set set = length (elements set)

-- a disk of the set leaves the group
abbrev pub has_leaving : List Entry → ℕ → Bool
has_leaving es set = list_any (λ d. mode_is leaves (entry_of es d)) (elements set)

-- a status move is due: a holder leaves or the due set is greater, and there is a due set
unfoldable pub is_status_move_due : GroupKind → Status → Bool
is_status_move_due kind r =
    let due = due_set kind r.entries in
    (has_leaving r.entries r.holders || nat_lt (size_of_set r.holders) (size_of_set due)) && nat_lt 0 (size_of_set due)

-- to where the tables move: to the next holders where there are some, else to the due set where a move is due
abbrev pub status_target : GroupKind → Status → Option ℕ
status_target kind r =
    if not (r.next_holders == 0) then Some r.next_holders
    else if is_status_move_due kind r then Some (due_set kind r.entries) else None

-- ---- directory copies

abbrev pub copy_count : GroupKind → ℕ
copy_count External = 1
copy_count _ = 3

-- the disks of a creation's directory copies: the least disk of each of the first regular failure groups
unfoldable pub directory_set : GroupKind → List Entry → ℕ
directory_set kind es = set_of (numbers (take (copy_count kind) (flat_map (take 1) (by_group (filter (λ (e : Entry). not e.quorum) es)))))

-- the disks that may take copies
abbrev pub targets : List Entry → List Entry
targets es = filter is_target es

-- how many directory copies are due: at most one for each failure group with a disk that may take one
abbrev pub copies_due : GroupKind → List Entry → ℕ
copies_due kind es = min (copy_count kind) (length (distinct_failgroups (targets es)))

-- the disks of a set that stay
abbrev pub staying : List Entry → ℕ → List Entry
staying es set = filter (λ (e : Entry). stays e.mode && has_bit set e.number) es

-- failure groups that have a directory copy on a disk that stays
abbrev pub groups_with_copy : Status → List ℕ
groups_with_copy r = distinct_failgroups (staying r.entries r.directories)

-- the least disk that takes a further directory copy, where one is due
unfoldable pub directory_target : GroupKind → Status → Option ℕ
directory_target kind r =
    if nat_lt (length (groups_with_copy r)) (copies_due kind r.entries) then
    option_map (λ (e : Entry). e.number) (find (λ (e : Entry). is_target e && not (is_among (groups_with_copy r) e.failgroup)) r.entries)
    else None
