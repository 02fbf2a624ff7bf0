-- The extents of a group's files, by its tables.
use Rattle.std.specs.Prelude.{ℕ, suc, ◌*◌, ◌^◌, Bool, ◌&&◌, ◌||◌, ◌==◌, not, nat_lt, List, [], ◌∷◌, length, flat_map, find, sum_by, count_by, if◌then◌else◌, Option, Some, None}
use Rattle.std.specs.Option.{is_some, option_map}
use Rattle.asm_formats.specs.Status.{Entry}
use Rattle.asm_formats.specs.Items.{FileHead, Home, Homes, Item, chunk_len}
use Rattle.asm_placement.specs.Layout.{units_of}
use Rattle.asm_placement.specs.Placed.{Placed, placed}
use Rattle.asm_placement.specs.Copies.{home}
use Rattle.catalog_laws.specs.extent_map.Extents.{Chunked, has_home}
use Rattle.file_directory.specs.Files.{head_at}
use Rattle.catalog_laws.specs.catalog_tables.MarkedExtents.{is_home_on_disk}
use Rattle.catalog_laws.specs.catalog_tables.Placing.{homes_of}
use Rattle.catalog_laws.specs.catalog_tables.Rules.{marks_of}
use Rattle.catalog_laws.specs.catalog_tables.Tables.{Catalogued}
use Rattle.extent_copies.specs.declared.extent.Extent.{Extent}
use Rattle.extent_copies.specs.Extents.{copy_of}
use Rattle.extent_copies.specs.Usable.{all_from, first_passing, is_current_at, is_full_at}
use Rattle.group_reports.specs.declared.checking.Checked.{Checked}

-- ---- the extents

-- an extent of a file with so many copies, as the tables have it
abbrev pub extent_of : Catalogued → ℕ → ℕ → ℕ → Homes → Extent
extent_of c f copies i homes = record { id = record { file = f; index = i }; homes = homes; marks = marks_of c.tables f i; copies = copies; units = units_of c.shape.step i }

-- the same where it is there; its number has 32 bits
abbrev pub extent_there : Catalogued → ℕ → ℕ → ℕ → Homes → Option Extent
extent_there c f copies i homes = if has_home homes && nat_lt i (2 ^ 32) then Some (extent_of c f copies i homes) else None

-- one extent more, where it is there
abbrev pub with_extent_if_any : Option Extent → List Extent → List Extent
with_extent_if_any None xs = xs
with_extent_if_any (Some x) xs = x ∷ xs

-- those of some homes that are there, by number from i on
abbrev pub extents_from : Catalogued → ℕ → ℕ → ℕ → List Homes → List Extent
extents_from c f copies i [] = []
extents_from c f copies i (homes ∷ more) = with_extent_if_any (extent_there c f copies i homes) (extents_from c f copies (suc i) more)

abbrev pub of_copies : (ℕ → List Extent) → Option ℕ → List Extent
of_copies extents None = []
of_copies extents (Some copies) = extents copies

-- those of a chunk, where its file has a head
abbrev pub chunk_extents : Catalogued → Chunked → List Extent
chunk_extents c x = of_copies (λ copies. extents_from c x.0.0 copies (x.0.1 * chunk_len) x.1) (option_map (λ (h : FileHead). h.copies) (head_at c.tables.files x.0.0))

-- the extents of files in some chunks, and all of them, by file and number
abbrev pub extents_in : Catalogued → List Chunked → List Extent
extents_in c chunks = flat_map (chunk_extents c) chunks

abbrev pub all_extents : Catalogued → List Extent
all_extents c = extents_in c c.tables.extents

-- ---- CHECK

abbrev pub lacks : List Entry → Extent → Bool
lacks es x = not (is_full_at es x)

-- how many extents there are, and how many of them aren't full
abbrev pub checked_of : List Entry → List Extent → Checked
checked_of es xs = record { extents = length xs; not_full = count_by (lacks es) xs }

-- ---- what is lost with a disk

-- copy k is current, and not on the disk
abbrev pub is_kept_elsewhere : List Entry → ℕ → Extent → ℕ → Bool
is_kept_elsewhere es d x k = is_current_at es x k && not (is_home_on_disk d (home (copy_of x k)))

-- some copy of the extent passes
abbrev pub has_copy : (ℕ → Bool) → Extent → Bool
has_copy test x = is_some (first_passing test 0 x.copies)

-- the extent has a current copy, and all of them are on the disk
abbrev pub is_only_on : List Entry → ℕ → Extent → Bool
is_only_on es d x = has_copy (is_current_at es x) x && not (has_copy (is_kept_elsewhere es d x) x)

-- the first extent that has all its current copies on the disk
abbrev pub first_lost : List Entry → Catalogued → ℕ → Option Extent
first_lost es c d = find (is_only_on es d) (all_extents c)

-- ---- units of a file

-- units under the homes of a file
abbrev pub units_of_file : ℕ → List Placed → ℕ
units_of_file f ps = sum_by (λ (p : Placed). if p.file == f then p.len else 0) ps

-- those of one home, where it is there
abbrev pub units_at : ℕ → Option Home → ℕ
units_at len None = 0
units_at len (Some h) = len

-- the units of all copies of a file, by the tables and by the records
abbrev pub file_units : Catalogued → ℕ → ℕ
file_units c f = units_of_file f (flat_map (homes_of c.shape.step) c.tables.extents)

abbrev pub file_units_in : ℕ → List Item → ℕ → ℕ
file_units_in step items f = units_of_file f (placed step items)
