-- The copies of files, and what each lacks, by a status record and directories alone.
use Rattle.std.specs.Prelude.{ℕ, zero, suc, ◌*◌, Bool, false, ◌&&◌, ◌||◌, not, List, [], ◌∷◌, ◌++◌, length, take, filter, flat_map, get_or, if◌then◌else◌, ◌==◌, Option, Some, None}
use Rattle.std.specs.List.{list_any, list_all}
use Rattle.std.specs.Option.{is_some, is_none}
use Rattle.asm_formats.specs.asm_group.declared.Mode.{Mode}
use Rattle.asm_formats.specs.asm_group.Shape.{Shape}
use Rattle.asm_formats.specs.Status.{Entry, entry_of}
use Rattle.asm_formats.specs.Items.{Item, chunk_item, FileHead, Home, Homes, chunk_len}
use Rattle.asm_placement.specs.Layout.{units_of}
use Rattle.asm_placement.specs.Tables.{head_of, is_stale}
use Rattle.asm_placement.specs.Modes.{is_online, is_dropping, is_forced, serves, mode_is}
use Rattle.asm_placement.specs.DiskSets.{distinct_failgroups}
use Rattle.asm_placement.specs.Choices.{staying_disk}

-- a copy of an extent of a file: its number among the copies, and the homes of all
pub record Copy : Type 0 where
  pub file : ℕ
  pub index : ℕ
  pub copy : ℕ
  pub homes : Homes

abbrev pub home : Copy → Option Home
home x = get_or x.homes x.copy None

abbrev pub units : Shape → Copy → ℕ
units s x = units_of s.step x.index

-- ---- all copies of files that have a head, by file, index and copy number

abbrev pub copies_at : ℕ → ℕ → Homes → ℕ → ℕ → List Copy
copies_at f i homes copy zero = []
copies_at f i homes copy (suc k) = record { file = f; index = i; copy = copy; homes = homes } ∷ copies_at f i homes (suc copy) k

abbrev pub has_any_home : Homes → Bool
has_any_home homes = list_any is_some homes

abbrev pub copies_from : ℕ → ℕ → ℕ → List Homes → List Copy
copies_from f i count [] = []
copies_from f i count (hs ∷ more) = if has_any_home hs then copies_at f i hs 0 count ++ copies_from f (suc i) count more else copies_from f (suc i) count more

abbrev pub file_copies : ℕ → ℕ → List Homes → Option FileHead → List Copy
file_copies f i homes None = []
file_copies f i homes (Some head) = copies_from f i head.copies homes

-- those of a chunk, by the heads of files
abbrev pub item_copies : (ℕ → Option FileHead) → Item → List Copy
item_copies head (chunk_item f c homes) = file_copies f (c * chunk_len) homes (head f)
item_copies head _ = []

unfoldable pub all_copies : List Item → List Copy
all_copies items = flat_map (item_copies (head_of items)) items

-- ---- what a copy is

abbrev pub entry_at_home : List Entry → Option Home → Option Entry
entry_at_home es None = None
entry_at_home es (Some h) = entry_of es h.disk

-- the copy's disk has a mode that passes
abbrev pub is_on : (Mode → Bool) → List Entry → Copy → Bool
is_on test es x = mode_is test (entry_at_home es (home x))

abbrev pub is_unmarked : List Item → Copy → Bool
is_unmarked items x = not (is_stale items x.file x.index x.copy)

abbrev pub is_marked : List Item → Copy → Bool
is_marked items x = is_some (home x) && is_stale items x.file x.index x.copy

-- it is usable, where each disk that serves is there
abbrev pub can_be_read : List Entry → List Item → Copy → Bool
can_be_read es items x = is_on serves es x && is_unmarked items x

-- the copies of the same extent
abbrev pub same_extent : Copy → Copy → Bool
same_extent x y = (x.file == y.file) && (x.index == y.index)

abbrev pub siblings : List Copy → Copy → List Copy
siblings all x = filter (same_extent x) all

abbrev pub has_source : List Entry → List Item → List Copy → Copy → Bool
has_source es items all x = list_any (can_be_read es items) (siblings all x)

abbrev pub has_other_source : List Entry → List Item → List Copy → Copy → Bool
has_other_source es items all x = list_any (λ y. not (y.copy == x.copy) && can_be_read es items y) (siblings all x)

-- it is absent, or its disk is Forced
abbrev pub wants_fill : List Entry → Copy → Bool
wants_fill es x = is_none (home x) || is_on is_forced es x

abbrev pub shares_group : Option Entry → Option Entry → Bool
shares_group None o = false
shares_group (Some a) None = false
shares_group (Some a) (Some b) = a.failgroup == b.failgroup

-- its disk and that of an earlier copy share a failure group, and neither leaves
abbrev pub is_doubled : List Entry → Copy → Bool
is_doubled es x = list_any (λ h. shares_group (staying_disk es (home x)) (staying_disk es h)) (take x.copy x.homes)

-- its disk is Dropping, or it is doubled
abbrev pub wants_shift : List Entry → Copy → Bool
wants_shift es x = is_on is_dropping es x || is_doubled es x

-- ---- full extents

abbrev pub is_whole_copy : List Entry → List Item → Copy → Bool
is_whole_copy es items x = is_on is_online es x && is_unmarked items x

abbrev pub disks_of_copies : List Entry → List Copy → List Entry
disks_of_copies es [] = []
disks_of_copies es (x ∷ xs) = with_disk (entry_at_home es (home x)) (disks_of_copies es xs)
  where
    with_disk : Option Entry → List Entry → List Entry
    with_disk None rest = rest
    with_disk (Some e) rest = e ∷ rest

-- the extent of these copies has as many current copies on Online disks as its redundancy says, in distinct failure groups
abbrev pub has_full_redundancy : List Entry → List Item → List Copy → Bool
has_full_redundancy es items extent = list_all (is_whole_copy es items) extent && (length (distinct_failgroups (disks_of_copies es extent)) == length extent)
