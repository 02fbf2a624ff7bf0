-- The tables of a group as one value, and the records that they are.
use Rattle.std.specs.Prelude.{◌≡◌, ℕ, ◌-◌, ◌==◌, ◌&&◌, Bool, not, find, List, map, Option, Some, None, if◌then◌else◌, is_some}
use Rattle.std.specs.Option.{option_map}
use Rattle.asm_group.specs.Shape.{Shape}
use Rattle.asm_formats.specs.Items.{Item, Key, file_item, chunk_item, disk_item, rebalance_item, pending_item, templates_item, node_item, settings_item, marks_item, disks_kind, files_kind, marks_kind, nodes_kind, operations_kind, settings_kind, templates_kind}
use Rattle.asm_formats.specs.Values.{value, decoded_item}
use Rattle.asm_base.specs.Records.{DirectoryRecord, of_kinds}
use Rattle.page_map.specs.allocator.UnitMaps.{UnitMap}
use Rattle.file_directory.specs.Files as files
use Rattle.extent_map.specs.Extents as extents
use Rattle.alias_tree.specs.Nodes as nodes
use Rattle.template_directory.specs.Tables as templates
use Rattle.staleness_directory.specs.Marks as stale
use Rattle.operations_directory.specs.Operations as operations
use Rattle.disk_directory.specs.Disks as disks

pub record Tables : Type 0 where
  pub files : List files.NumberedFile
  -- the homes of the extents, chunk by chunk
  pub extents : List extents.Chunked
  pub nodes : List nodes.Numbered
  -- the templates and the settings
  pub templates : templates.Table
  pub stale : List stale.Marked
  pub operations : operations.Operations
  pub disks : List disks.Disk

-- The tables, the group's shape, and of each disk number which units are used; and the tables that the next change gives and the
-- units of the disks whose number of units the next status record changes, each where the memory for it was taken.
pub record Catalogued : Type 0 where
  pub tables : Tables
  pub shape : Shape
  pub units : List UnitMap
  pub next : Option Tables
  pub next_units : Option (List (ℕ × UnitMap))

-- each table is one: its entries are of the formats, in order, and keep its own rule
pub record AreTables (t : Tables) : Type 0 where
  pub files : files.IsFileTable t.files
  pub extents : extents.IsExtentTable t.extents
  pub nodes : nodes.IsNodeTable t.nodes
  pub templates : templates.IsTemplateTable t.templates
  pub stale : stale.IsMarkTable t.stale
  pub operations : operations.IsOperationTable t.operations
  pub disks : disks.IsDiskTable t.disks

-- ---- records

-- what the tables say at a key
unfoldable pub item_at : Tables → Key → Option Item
item_at t k =
    if k.kind == files_kind then (if k.b == 0 then option_map (file_item k.a) (files.head_at t.files k.a) else option_map (chunk_item k.a (k.b - 1)) (extents.chunk_at t.extents (k.a, k.b - 1)))
    else if k.kind == disks_kind then (if k.b == 0 then option_map (disk_item k.a) (disks.info_at t.disks k.a) else None)
    else if k.kind == operations_kind then (if k.b == 0 then (if k.a == 0 then option_map rebalance_item t.operations.rebalance else if k.a == 1 then option_map pending_item t.operations.pending else None) else None)
    else if k.kind == templates_kind then (if (k.a == 0) && (k.b == 0) then Some (templates_item t.templates.templates) else None)
    else if k.kind == nodes_kind then (if k.b == 0 then option_map (node_item k.a) (nodes.node_at t.nodes k.a) else None)
    else if k.kind == settings_kind then (if (k.a == 0) && (k.b == 0) then Some (settings_item t.templates.settings) else None)
    else if k.kind == marks_kind then option_map (marks_item k.a k.b) (stale.marks_at t.stale (k.a, k.b))
    else None

-- the value that the tables give at a key
abbrev pub records_of : Tables → Key → Option (List ℕ)
records_of t k = option_map value (item_at t k)

-- the record is one of the formats
abbrev pub is_record : DirectoryRecord → Bool
is_record e = is_some (decoded_item e.0 e.1)

-- the key of the first record that isn't
abbrev pub first_unreadable : List DirectoryRecord → Option Key
first_unreadable content = option_map (λ (e : DirectoryRecord). e.0) (find (λ e. not (is_record e)) content)

-- Each record is of the formats, and those of each kind are, in order, those of the table.
pub record HasRecords (content : List DirectoryRecord) (t : Tables) : Type 0 where
  pub all : first_unreadable content ≡ None
  pub files : of_kinds files.is_key_of_file content ≡ map files.record_of_file t.files
  pub extents : of_kinds extents.is_chunk content ≡ map extents.record_of_chunk t.extents
  pub nodes : of_kinds nodes.is_key_of_node content ≡ map nodes.record_of_node t.nodes
  pub templates : of_kinds templates.is_key_of_templates content ≡ templates.records_of_templates t.templates
  pub stale : of_kinds stale.is_marks content ≡ map stale.record_of_marks t.stale
  pub operations : of_kinds operations.is_operation content ≡ operations.records_of_operations t.operations
  pub disks : of_kinds disks.is_key_of_disk content ≡ map disks.record_of_disk t.disks
