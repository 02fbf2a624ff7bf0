-- What a change of records does to the tables of a group.
use Rattle.std.specs.Prelude.{◌≡◌, ℕ, Bool, true, false, ◌==◌, ◌&&◌, List, Option, if◌then◌else◌}
use Rattle.asm_formats.specs.Items.{Key, disks_kind, files_kind, marks_kind, nodes_kind, operations_kind, settings_kind, templates_kind}
use Rattle.asm_base.specs.Records.{DirectoryRecord, is_key}
use Rattle.page_map.specs.Changes.{value_after}
use Rattle.file_directory.specs.Files as files
use Rattle.extent_map.specs.Changing as extents
use Rattle.alias_tree.specs.Opening as nodes
use Rattle.template_directory.specs.Tables as templates
use Rattle.staleness_directory.specs.Marks as stale
use Rattle.operations_directory.specs.Operations as operations
use Rattle.disk_directory.specs.Disks as disks
use Rattle.catalog_tables.specs.Tables.{AreTables, Tables, records_of}
use Rattle.catalog_tables.specs.declared.opening.OpenParts.{OpenParts}

-- The tables after a change: they are tables, and at each key they give what the change leaves there.
pub record IsAfter (t : Tables) (put : List DirectoryRecord) (gone : List Key) (u : Tables) : Type 0 where
  pub tables : AreTables u
  pub records : (k : Key) → records_of u k ≡ value_after put gone k (records_of t k)

-- one key has this value, or none, and each other key has what it had
abbrev pub Sets : Tables → Tables → Key → Option (List ℕ) → Type 0
Sets t u key v = (k : Key) → records_of u k ≡ (if is_key key k then v else records_of t k)

-- The entries of each table are of the formats and in order. The rules of extents and of nodes needn't hold.
pub record AreItemTables (t : Tables) : Type 0 where
  pub files : files.IsFileTable t.files
  pub extents : extents.AreChunks t.extents
  pub nodes : nodes.AreNodes t.nodes
  pub templates : templates.IsTemplateTable t.templates
  pub stale : stale.IsMarkTable t.stale
  pub operations : operations.IsOperationTable t.operations
  pub disks : disks.IsDiskTable t.disks

-- ---- the tables in the midst of a change

abbrev pub tables_of : OpenParts → Tables
tables_of p = record { files = p.files; extents = p.extents; nodes = p.tree; templates = p.templates; stale = p.stale; operations = p.operations; disks = p.disks }

-- what isn't an invariant of the tables' types
pub record ArePartsOpen (p : OpenParts) : Type 0 where
  pub extents : extents.AreChunks p.extents
  pub operations : operations.IsOperationTable p.operations

-- tables may say something at the key
abbrev pub is_place : Key → Bool
is_place k =
    if k.kind == files_kind then true else if k.kind == operations_kind then true else if k.kind == marks_kind then true
    else if k.kind == disks_kind then k.b == 0 else if k.kind == nodes_kind then k.b == 0
    else if k.kind == templates_kind then (k.a == 0) && (k.b == 0) else if k.kind == settings_kind then (k.a == 0) && (k.b == 0) else false
