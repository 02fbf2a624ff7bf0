-- Extents that are put behind those of a file.
use Rattle.std.specs.Prelude.{◌≡◌, ℕ, ◌+◌, ◌/◌, ◌%◌, ◌≤◌, ◌<◌, Bool, true, ◌&&◌, nat_lt, List, length, Option, Some, None, IsTrue}
use Rattle.std.specs.List.{list_all, zip}
use Rattle.asm_formats.specs.Items.{FileHead, Homes}
use Rattle.asm_placement.specs.Naming.{is_pending}
use Rattle.catalog_tables.specs.file_directory.Files.{head_at}
use Rattle.catalog_tables.specs.extent_map.Extents.{chunk_or_blank, count_in, extent_at, follows}
use Rattle.catalog_tables.specs.Rules.{are_marks_of, are_on_disks, are_within, has_copies}
use Rattle.catalog_tables.specs.Tables.{Tables}
use Rattle.file_extents.specs.declared.appending.Part.{Part}

-- an extent with these homes has its copies and no others, on different disks
abbrev pub are_copies : ℕ → Homes → Bool
are_copies copies homes = has_copies copies (Some homes) && (are_within copies homes && are_on_disks homes)

abbrev pub are_all_copies : ℕ → List Homes → Bool
are_all_copies copies row = list_all (are_copies copies) row

-- each extent has its marks, and each mark is that of a copy that is there
pub record AreMarks (row : List Homes) (marks : List ℕ) : Type 0 where
  pub marked : length marks ≡ length row
  pub three : IsTrue (list_all (λ m. nat_lt m 8) marks)
  pub stale : IsTrue (list_all are_marks_of (zip marks row))

-- the file has the extents below a number, each with so many copies
abbrev pub HasAllExtents : Tables → ℕ → ℕ → ℕ → Type 0
HasAllExtents t f copies n = (i : ℕ) → i < n → has_copies copies (extent_at t.extents f i) ≡ true

-- the file has a head with so many copies, or has none and is that of the pending operation
abbrev pub has_owner : Option FileHead → Bool → ℕ → Type 0
has_owner None pending copies = pending ≡ true
has_owner (Some head) pending copies = head.copies ≡ copies

abbrev pub IsOwner : Tables → ℕ → ℕ → Type 0
IsOwner t f copies = has_owner (head_at t.files f) (is_pending f t.operations.pending) copies

-- What extents must be that are put behind those of their file, but for the units of their homes.
pub record MayStand (t : Tables) (part : Part) (row : List Homes) (marks : List ℕ) : Type 0 where
  pub some : 0 < part.copies
  pub number : part.first < 2147483648
  pub room : part.first % 256 + length row ≤ 256
  pub place : count_in (chunk_or_blank t.extents (part.file, part.first / 256)) ≡ part.first % 256
  pub behind : IsTrue (follows t.extents part.file (part.first / 256))
  pub owner : IsOwner t part.file part.copies
  pub copies : are_all_copies part.copies row ≡ true
  pub marked : AreMarks row marks
