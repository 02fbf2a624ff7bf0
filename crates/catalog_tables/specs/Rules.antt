-- The rules that hold across the tables of a group.
use Rattle.std.specs.Prelude.{◌≡◌, ◌≤◌, ℕ, ◌+◌, Bool, true, false, ◌&&◌, ◌||◌, ◌==◌, not, nat_lt, ◌/◌, ◌%◌, List, [], ◌∷◌, length, get_or, slice_index_or, find, Option, Some, None, is_some}
use Rattle.std.specs.List.{list_all, zip, AllByRecursion}
use Rattle.std.specs.Option.{option_map, unwrap_or}
use Rattle.asm_group.specs.Shape.{Shape}
use Rattle.asm_group.specs.declared.NodeKind.{NodeKind}
use Rattle.asm_group.specs.declared.NodeKind.TheVariants.{System, Alias}
use Rattle.asm_formats.specs.Items.{Key, chunk_len, FileHead, Home, Homes}
use Rattle.asm_formats.specs.Among.{IsAmong}
use Rattle.asm_formats.specs.Sets.{has_bit}
use Rattle.asm_formats.specs.Status as status
use Rattle.partnership.specs.asm_placement.Copies.{entry_at_home}
use Rattle.partnership.specs.asm_placement.Layout.{has_extent_by_size}
use Rattle.partnership.specs.asm_placement.Naming.{is_birth, is_kind_directory, is_named_as, is_pending, names_back}
use Rattle.partnership.specs.asm_placement.Work.{is_regular}
use Rattle.asm_base.specs.Records.{DirectoryRecord}
use Rattle.page_map.specs.Changes.{is_put}
use Rattle.page_map.specs.Tables.{has_kept_pages, one_if}
use Rattle.file_directory.specs.Files.{NumberedFile, head_at, is_file_number}
use Rattle.extent_map.specs.Extents.{Chunked, chunk_at, extent_at}
use Rattle.alias_tree.specs.Nodes.{Numbered, node_at}
use Rattle.staleness_directory.specs.Marks.{Marked, marks_at}
use Rattle.disk_directory.specs.Disks.{info_at}
use Rattle.catalog_tables.specs.Tables.{AreTables, Tables, records_of}

-- the key of the first entry that isn't right
abbrev pub first_wrong : {K T : Type 0} → (K × T → Bool) → List (K × T) → Option K
first_wrong {K} {T} is_right entries = option_map (λ (x : K × T). x.0) (find (λ (x : K × T). not (is_right x)) entries)

-- ---- chunks and marks

abbrev pub has_marks : Tables → Chunked → Bool
has_marks t x = is_some (marks_at t.stale x.0)

abbrev pub has_chunk : Tables → Marked → Bool
has_chunk t x = is_some (chunk_at t.extents x.0)

-- the chunk is one of a file or of the pending operation's
abbrev pub is_owned : Tables → Chunked → Bool
is_owned t x = is_file_number t.files x.0.0 || is_pending x.0.0 t.operations.pending

-- there is no home at copy number k, unless that is below the number of copies
abbrev pub is_home_within : ℕ → Homes → ℕ → Bool
is_home_within copies homes k = nat_lt k copies || not (is_some (get_or homes k None))

-- no home at a copy number that isn't below the number of copies
abbrev pub are_within : ℕ → Homes → Bool
are_within copies homes = is_home_within copies homes 0 && (is_home_within copies homes 1 && is_home_within copies homes 2)

abbrev pub are_within_head : Option FileHead → List Homes → Bool
are_within_head None homes = true
are_within_head (Some head) homes = list_all (are_within head.copies) homes

abbrev pub keeps_copies : Tables → Chunked → Bool
keeps_copies t x = are_within_head (head_at t.files x.0.0) x.1

-- the homes aren't both there on one disk
abbrev pub are_on_two : Option Home → Option Home → Bool
are_on_two None h = true
are_on_two (Some g) None = true
are_on_two (Some g) (Some h) = not (g.disk == h.disk)

abbrev pub are_on_disks : Homes → Bool
are_on_disks homes = are_on_two (get_or homes 0 None) (get_or homes 1 None) && (are_on_two (get_or homes 0 None) (get_or homes 2 None) && are_on_two (get_or homes 1 None) (get_or homes 2 None))

-- the homes of each extent lie on different disks
abbrev pub is_on_disks : Chunked → Bool
is_on_disks x = list_all are_on_disks x.1

-- where mark bit k of an extent is set, it has a home at copy number k
abbrev pub is_mark_of : ℕ → Homes → ℕ → Bool
is_mark_of marks homes k = not (has_bit marks k) || is_some (get_or homes k None)

-- each mark of an extent is that of a copy that is there
abbrev pub are_marks_of : ℕ × Homes → Bool
are_marks_of x = is_mark_of x.0 x.1 0 && (is_mark_of x.0 x.1 1 && is_mark_of x.0 x.1 2)

-- the same of each extent of a chunk that is there
abbrev pub are_chunk_marks : Option (List Homes) → List ℕ → Bool
are_chunk_marks None marks = true
are_chunk_marks (Some homes) marks = list_all are_marks_of (zip marks homes)

abbrev pub is_marked_right : Tables → Marked → Bool
is_marked_right t x = are_chunk_marks (chunk_at t.extents x.0) x.1

-- ---- names

-- a system or alias node names a file that names it as such
abbrev pub is_named_back : Tables → Numbered → Bool
is_named_back t x = is_kind_directory x.1.kind || names_back x.1.kind x.0 (head_at t.files x.1.file)

-- 0, or a node of this kind that names the file
abbrev pub names_file_in_tables : Tables → ℕ → NodeKind → ℕ → Bool
names_file_in_tables t f kind n = (n == 0) || is_named_as kind f (node_at t.nodes n)

abbrev pub has_names : Tables → NumberedFile → Bool
has_names t x = names_file_in_tables t x.0 System x.1.system && names_file_in_tables t x.0 Alias x.1.alias

-- ---- the extents of a file

abbrev pub is_copied : ℕ → Homes → ℕ → Bool
is_copied copies homes k = not (nat_lt k copies) || is_some (get_or homes k None)

-- the extent is there, with a home at each copy number below the number of copies
abbrev pub has_copies : ℕ → Option Homes → Bool
has_copies copies None = false
has_copies copies (Some homes) = is_copied copies homes 0 && (is_copied copies homes 1 && is_copied copies homes 2)

-- the file has extent i by its size
abbrev pub head_has_extent : Shape → FileHead → ℕ → Bool
head_has_extent s head i = has_extent_by_size head.stripe s.au s.step head.size i

-- each extent that the file has by its size has all its copies
abbrev pub HasExtents : Tables → Shape → NumberedFile → Type 0
HasExtents t s x = (i : ℕ) → head_has_extent s x.1 i ≡ true → has_copies x.1.copies (extent_at t.extents x.0 i) ≡ true

-- an extent that it has by its size has not
pub record LacksExtent (t : Tables) (s : Shape) (x : NumberedFile) : Type 0 where
  pub index : ℕ
  pub due : head_has_extent s x.1 index ≡ true
  pub lacks : has_copies x.1.copies (extent_at t.extents x.0 index) ≡ false

-- ---- disks and room

-- the entry has a disk record of its number and birth
abbrev pub has_info : Tables → status.Entry → Bool
has_info t e = is_birth e.birth (info_at t.disks e.number)

-- the number of the first entry that has none
abbrev pub first_unknown : Tables → List status.Entry → Option ℕ
first_unknown t entries = option_map (λ (e : status.Entry). e.number) (find (λ e. not (has_info t e)) entries)

-- the home doesn't lie on a disk of a quorum failure group
abbrev pub is_on_regular : List status.Entry → Option Home → Bool
is_on_regular entries h = is_regular (entry_at_home entries h)

abbrev pub are_on_regular : List status.Entry → Homes → Bool
are_on_regular entries homes = list_all (is_on_regular entries) homes

-- no home of the chunk does
abbrev pub is_regular_chunk : List status.Entry → Chunked → Bool
is_regular_chunk entries x = list_all (are_on_regular entries) x.1

-- no home lies on a disk of a quorum failure group, by these entries
abbrev pub AreOnRegular : List status.Entry → Tables → Type 0
AreOnRegular entries t = first_wrong (is_regular_chunk entries) t.extents ≡ None

-- blocks that the records take, but for the two that are kept
abbrev pub blocks_used : Tables → ℕ
blocks_used t = length t.files + length t.extents + length t.nodes + 2 + length t.stale + length t.disks

-- the key has no record, and isn't one of the two for which blocks are kept
abbrev pub lacks_record : Tables → Key → Bool
lacks_record t k = not (has_kept_pages k) && not (is_some (records_of t k))

-- how many new records are put, each counted where it is put last
abbrev pub new_records : Tables → List DirectoryRecord → ℕ
new_records t [] = 0
new_records t (p ∷ ps) = one_if (lacks_record t p.0 && not (is_put ps p.0)) + new_records t ps

-- ---- all of it

-- the rules that hold of the tables of a group
pub record KeepsRules (s : Shape) (t : Tables) : Type 0 where
  pub tables : AreTables t
  -- a chunk and its stale marks go together
  pub marked : first_wrong (has_marks t) t.extents ≡ None
  pub chunks : first_wrong (has_chunk t) t.stale ≡ None
  -- each chunk is one of a file or of the pending operation's
  pub owned : first_wrong (is_owned t) t.extents ≡ None
  -- no home at a copy number that the file doesn't have
  pub redundancy : first_wrong (keeps_copies t) t.extents ≡ None
  -- the homes of one extent lie on different disks
  pub apart : first_wrong is_on_disks t.extents ≡ None
  -- each stale mark is that of a copy that is there
  pub stale : first_wrong (is_marked_right t) t.stale ≡ None
  -- nodes and files name each other
  pub nodes : first_wrong (is_named_back t) t.nodes ≡ None
  pub names : first_wrong (has_names t) t.files ≡ None
  -- each extent that a file has by its size has all its copies
  pub extents : AllByRecursion (HasExtents t s) t.files
  -- room for the rebalance and the pending operation
  pub room : blocks_used t + 2 ≤ s.dir_blocks

-- the number is that of a file that lacks an extent
pub record IsShortFile (t : Tables) (s : Shape) (f : ℕ) : Type 0 where
  pub head : FileHead
  pub file : IsAmong t.files (f, head)
  pub lacks : LacksExtent t s (f, head)

-- the stale copies of an extent, bit k for copy k; none where its chunk isn't there
abbrev pub marks_of : Tables → ℕ → ℕ → ℕ
marks_of t f i = slice_index_or (unwrap_or (marks_at t.stale (f, i / chunk_len)) []) (i % chunk_len) 0

-- the homes at the place of an extent; no home where its chunk isn't there
abbrev pub homes_at : Tables → ℕ → ℕ → Homes
homes_at t f i = get_or (unwrap_or (chunk_at t.extents (f, i / chunk_len)) []) (i % chunk_len) []
