-- Which copies of an extent count: by the records of a group, and by the homes and marks of the extent.
use Rattle.std.specs.Prelude.{ℕ, zero, suc, ◌-◌, Bool, true, false, ◌&&◌, not, List, length, find, if◌then◌else◌, ◌==◌, Option, Some, None}
use Rattle.std.specs.Option.{is_some, option_map}
use Rattle.asm_group.specs.declared.Mode.{Mode}
use Rattle.asm_formats.specs.Sets.{has_bit}
use Rattle.asm_formats.specs.Status.{Entry}
use Rattle.asm_formats.specs.Items.{Item, Home}
use Rattle.asm_placement.specs.Modes.{is_forced, is_online}
use Rattle.asm_placement.specs.Copies.{Copy, home, copies_at, disks_of_copies, is_on, is_unmarked, can_be_read}
use Rattle.asm_placement.specs.DiskSets.{distinct_failgroups}
use Rattle.extent_copies.specs.declared.extent.Extent.{Extent}
use Rattle.extent_copies.specs.Extents.{can_be_read_at, copies_of_extent, copy_of}

-- ---- by the records

-- the copy is there, and not stale
abbrev pub is_fresh : List Item → Copy → Bool
is_fresh items x = is_some (home x) && is_unmarked items x

abbrev pub is_kept_mode : Mode → Bool
is_kept_mode mode = not (is_forced mode)

-- it is current: its disk has an entry that isn't Forced, and it isn't stale
abbrev pub is_current : List Entry → List Item → Copy → Bool
is_current es items x = is_on is_kept_mode es x && is_unmarked items x

-- a home lies on a disk of the set
abbrev pub is_home_in_disk_set : ℕ → Option Home → Bool
is_home_in_disk_set disks None = false
is_home_in_disk_set disks (Some h) = has_bit disks h.disk

-- it is usable: it is current, its disk is attached, and the disk's mode serves
abbrev pub is_usable : ℕ → List Entry → List Item → Copy → Bool
is_usable attached es items x = can_be_read es items x && is_home_in_disk_set attached (home x)

-- the copies of an extent from a number on
abbrev pub copies_after : Extent → ℕ → List Copy
copies_after x k = copies_at x.id.file x.id.index x.homes k (x.copies - k)

-- the number of the first of these that is usable
abbrev pub first_usable : ℕ → List Entry → List Item → List Copy → Option ℕ
first_usable attached es items copies = option_map (λ (y : Copy). y.copy) (find (is_usable attached es items) copies)

-- ---- by marks

abbrev pub is_fresh_at : Extent → ℕ → Bool
is_fresh_at x k = is_some (home (copy_of x k)) && not (has_bit x.marks k)

abbrev pub is_current_at : List Entry → Extent → ℕ → Bool
is_current_at es x k = is_on is_kept_mode es (copy_of x k) && not (has_bit x.marks k)

abbrev pub is_usable_at : ℕ → List Entry → Extent → ℕ → Bool
is_usable_at attached es x k = can_be_read_at es x k && is_home_in_disk_set attached (home (copy_of x k))

abbrev pub is_whole_at : List Entry → Extent → ℕ → Bool
is_whole_at es x k = is_on is_online es (copy_of x k) && not (has_bit x.marks k)

-- of so many numbers from k on, the first that passes
abbrev pub first_passing : (ℕ → Bool) → ℕ → ℕ → Option ℕ
first_passing test k zero = None
first_passing test k (suc n) = if test k then Some k else first_passing test (suc k) n

-- all pass
abbrev pub all_from : (ℕ → Bool) → ℕ → ℕ → Bool
all_from test k zero = true
all_from test k (suc n) = test k && all_from test (suc k) n

-- in how many failure groups the disks of the copies from a number on lie
abbrev pub failgroup_count_after : List Entry → Extent → ℕ → ℕ
failgroup_count_after es x k = length (distinct_failgroups (disks_of_copies es (copies_after x k)))

abbrev pub is_full_at : List Entry → Extent → Bool
is_full_at es x = all_from (is_whole_at es x) 0 x.copies && (failgroup_count_after es x 0 == x.copies)
