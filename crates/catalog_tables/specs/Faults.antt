-- Which record of a group's directories is at fault, and when tables are the catalog of some records.
use Rattle.std.specs.Prelude.{◌≡◌, ◌⊎◌, ◌<◌, ◌≤◌, ℕ, ◌+◌, List, Some, None}
use Rattle.std.specs.List.{AllByRecursion}
use Rattle.asm_group.specs.Shape.{Shape}
use Rattle.asm_formats.specs.Items.{Key, disks_kind, files_kind, marks_kind, nodes_kind, settings_kind, templates_kind}
use Rattle.asm_formats.specs.Status as status
use Rattle.asm_base.specs.Records.{DirectoryRecord, record_at}
use Rattle.extent_map.specs.Extents.{chunk_key}
use Rattle.asm_base.specs.Chunks.{Chunk}
use Rattle.extent_map.specs.Faults.{HasGap}
use Rattle.alias_tree.specs.Faults.{HasFault}
use Rattle.catalog_tables.specs.declared.error.CatalogError.{CatalogError}
use Rattle.catalog_tables.specs.declared.error.CatalogError.TheVariants as answer
use Rattle.catalog_tables.specs.Tables.{AreTables, Catalogued, HasRecords, Tables, first_unreadable}
use Rattle.catalog_tables.specs.Rules.{AreOnRegular, HasExtents, IsShortFile, KeepsRules, blocks_used, first_unknown, first_wrong, has_chunk, has_marks, has_names, is_marked_right, is_named_back, is_on_disks, is_owned, is_regular_chunk, keeps_copies}
use Rattle.catalog_tables.specs.Placing.{HasUnits, first_misplaced, unused_maps}

-- ---- keys

abbrev pub file_key : ℕ → Key
file_key f = record { kind = files_kind; a = f; b = 0 }

abbrev pub key_of_chunk : Chunk → Key
key_of_chunk at = chunk_key at.0 at.1

abbrev pub disk_key : ℕ → Key
disk_key d = record { kind = disks_kind; a = d; b = 0 }

abbrev pub templates_key : Key
templates_key = record { kind = templates_kind; a = 0; b = 0 }

abbrev pub node_key : ℕ → Key
node_key n = record { kind = nodes_kind; a = n; b = 0 }

abbrev pub settings_key : Key
settings_key = record { kind = settings_kind; a = 0; b = 0 }

-- the record of this key must be there
abbrev pub IsNeeded : Key → Type 0
IsNeeded k = (k ≡ templates_key) ⊎ (k ≡ settings_key)

abbrev pub key_of_marks : Chunk → Key
key_of_marks at = record { kind = marks_kind; a = at.0; b = at.1 }

-- ---- faults

-- the chunk breaks a rule that doesn't speak of units
abbrev pub IsChunkFault : Tables → Chunk → Type 0
IsChunkFault t at =
    (first_wrong (has_marks t) t.extents ≡ Some at) ⊎ ((first_wrong (is_owned t) t.extents ≡ Some at)
    ⊎ ((first_wrong (keeps_copies t) t.extents ≡ Some at) ⊎ (first_wrong is_on_disks t.extents ≡ Some at)))

pub record AreChunksRight (t : Tables) : Type 0 where
  pub marked : first_wrong (has_marks t) t.extents ≡ None
  pub owned : first_wrong (is_owned t) t.extents ≡ None
  pub redundancy : first_wrong (keeps_copies t) t.extents ≡ None
  pub apart : first_wrong is_on_disks t.extents ≡ None

pub record AreNamesRight (t : Tables) : Type 0 where
  pub chunks : first_wrong (has_chunk t) t.stale ≡ None
  pub stale : first_wrong (is_marked_right t) t.stale ≡ None
  pub nodes : first_wrong (is_named_back t) t.nodes ≡ None
  pub names : first_wrong (has_names t) t.files ≡ None

pub record AreSizesRight (s : Shape) (entries : List status.Entry) (t : Tables) : Type 0 where
  pub extents : AllByRecursion (HasExtents t s) t.files
  pub infos : first_unknown t entries ≡ None
  pub regular : AreOnRegular entries t
  pub room : blocks_used t + 2 ≤ s.dir_blocks

-- what the tables of the records break
pub data BreaksRule (s : Shape) (entries : List status.Entry) (t : Tables) (k : Key) : Type 0 where
  -- a chunk that has no record of stale marks
  unmarked : (at : Chunk) → first_wrong (has_marks t) t.extents ≡ Some at → k ≡ key_of_chunk at → BreaksRule s entries t k
  -- a record of stale marks that has no chunk
  marks_alone : (at : Chunk) → first_wrong (has_chunk t) t.stale ≡ Some at → k ≡ key_of_marks at → BreaksRule s entries t k
  -- stale marks of a copy that isn't there
  mark_alone : (at : Chunk) → first_wrong (is_marked_right t) t.stale ≡ Some at → k ≡ key_of_marks at → BreaksRule s entries t k
  -- a chunk that is neither one of a file nor of the pending operation's
  unowned : (at : Chunk) → first_wrong (is_owned t) t.extents ≡ Some at → k ≡ key_of_chunk at → BreaksRule s entries t k
  -- a chunk that has a home at a copy number that the file doesn't have
  too_many_copies : (at : Chunk) → first_wrong (keeps_copies t) t.extents ≡ Some at → k ≡ key_of_chunk at → BreaksRule s entries t k
  -- a chunk that has two homes of an extent on one disk
  on_one_disk : (at : Chunk) → first_wrong is_on_disks t.extents ≡ Some at → k ≡ key_of_chunk at → BreaksRule s entries t k
  -- a chunk that has a home that meets an earlier one, lies outside of the user units of its disk, or on a disk without an entry
  out_of_place : (at : Chunk) → first_misplaced s.step (unused_maps s entries) t.extents ≡ Some at → k ≡ key_of_chunk at → BreaksRule s entries t k
  -- a chunk that has a home on a disk of a quorum failure group
  on_quorum : (at : Chunk) → first_wrong (is_regular_chunk entries) t.extents ≡ Some at → k ≡ key_of_chunk at → BreaksRule s entries t k
  -- a system or alias node that names no file that names it as such
  nameless_node : (n : ℕ) → first_wrong (is_named_back t) t.nodes ≡ Some n → k ≡ node_key n → BreaksRule s entries t k
  -- a file that names a node that isn't there or isn't such a node of the file
  nameless_file : (f : ℕ) → first_wrong (has_names t) t.files ≡ Some f → k ≡ file_key f → BreaksRule s entries t k
  -- a file that has by its size an extent that hasn't all its copies
  short_file : (f : ℕ) → IsShortFile t s f → k ≡ file_key f → BreaksRule s entries t k
  -- an entry that has no disk record of its number and birth
  unknown_disk : (d : ℕ) → first_unknown t entries ≡ Some d → k ≡ disk_key d → BreaksRule s entries t k
  -- more records than there is room for
  no_room : s.dir_blocks < blocks_used t + 2 → k ≡ settings_key → BreaksRule s entries t k

-- The record of this key is at fault, or must be there and isn't.
pub data IsAtFault (content : List DirectoryRecord) (s : Shape) (entries : List status.Entry) (k : Key) : Type 0 where
  -- a record that isn't of the formats
  unreadable : first_unreadable content ≡ Some k → IsAtFault content s entries k
  -- the record of the templates or of the settings isn't there
  missing_record : record_at content k ≡ None → IsNeeded k → IsAtFault content s entries k
  -- a chunk that doesn't stand behind the file's others without a gap
  chunk_gap : (at : Chunk) → HasGap content at → k ≡ key_of_chunk at → IsAtFault content s entries k
  -- a node whose parents aren't directories up to the root, or that has the place of another
  loose_node : (n : ℕ) → HasFault content n → k ≡ node_key n → IsAtFault content s entries k
  -- the tables of the records break a rule
  broken : (t : Tables) → AreTables t → HasRecords content t → BreaksRule s entries t k → IsAtFault content s entries k

-- a chunk that doesn't stand behind the file's others without a gap, or a node that breaks the rule of the tree
abbrev pub IsGap : List DirectoryRecord → Key → Type 0
IsGap content k = (at : Chunk) × HasGap content at × (k ≡ key_of_chunk at)

abbrev pub IsLoose : List DirectoryRecord → Key → Type 0
IsLoose content k = (n : ℕ) × HasFault content n × (k ≡ node_key n)

-- an answer that names a record at fault, or says that memory is wanting
abbrev pub NamesFault : (Key → Type 0) → CatalogError → Type 0
NamesFault IsFault (answer.Damaged k) = IsFault k
NamesFault IsFault answer.NoMemory = Unit {0}

-- ---- the catalog

-- The value is the catalog of these records, for a status record with these entries.
pub record IsCatalogOf (content : List DirectoryRecord) (entries : List status.Entry) (c : Catalogued) : Type 0 where
  pub records : HasRecords content c.tables
  pub rules : KeepsRules c.shape c.tables
  -- each entry has a disk record of its number and birth
  pub infos : first_unknown c.tables entries ≡ None
  -- no home lies on a disk of a quorum failure group
  pub regular : AreOnRegular entries c.tables
  -- the used units are those of the homes that the tables name
  pub units : HasUnits c.shape entries c.tables c.units

-- The value is a catalog: its tables keep the rules, and its used units are those of the homes that they name, for some entries.
pub record IsCatalog (c : Catalogued) : Type 0 where
  pub rules : KeepsRules c.shape c.tables
  pub entries : List status.Entry
  pub units : HasUnits c.shape entries c.tables c.units
