-- Records that describe a group have a catalog.
use Rattle.std.proofs.Common.{◌≡◌, true, List, [], map, Option, Some, None, refl, inl, inr}
use Rattle.std.specs.Prelude.{IfSome, is_some}
use Rattle.std.specs.Ordering.{nat_cmp}
use Rattle.asm_group.specs.Group.{Group}
use Rattle.asm_formats.specs.Status.{Status}
use Rattle.asm_base.specs.Chunks.{chunk_cmp}
use Rattle.asm_base.specs.Records.{DirectoryRecord, add_item, of_kinds, read_from, record_at}
use Rattle.asm_base.specs.Tables.{IsItemTable, entry_of_record}
use Rattle.file_directory.specs.Files as files
use Rattle.file_directory.proofs.Laws as file_laws
use Rattle.extent_map.specs.Extents as extents
use Rattle.extent_map.proofs.Laws as extent_laws
use Rattle.alias_tree.specs.Nodes as nodes
use Rattle.alias_tree.proofs.Rules as node_laws
use Rattle.template_directory.specs.Tables as templates
use Rattle.template_directory.proofs.ReadingLaws as template_laws
use Rattle.staleness_directory.specs.Marks as stale
use Rattle.staleness_directory.proofs.Laws as stale_laws
use Rattle.operations_directory.specs.Operations as operations
use Rattle.operations_directory.specs.Readings as operation_readings
use Rattle.operations_directory.proofs.Laws as operation_laws
use Rattle.disk_directory.specs.Disks as disks
use Rattle.disk_directory.proofs.DiskLaws as disk_laws
use Rattle.catalog_tables.specs.Faults.{settings_key, templates_key}
use Rattle.catalog_tables.specs.Readable.{AreReadable, HasNeeded}
use Rattle.catalog_tables.specs.Tables.{AreTables, HasRecords, Tables}
use Rattle.catalog_tables.proofs.ReadableLaws.{disks_read, extents_read, files_read, needed_is, operations_read, readable_is, stale_read, templates_read, tree_read}
use Rattle.catalog_tables.proofs.TableItems.{items_of_records}
use Rattle.fault_laws.specs.Faults.{DescribeIn, DescribedHaveCatalog}
use Rattle.fault_laws.proofs.Gaps.{no_gap}
use Rattle.fault_laws.proofs.Records.{none_absent, readable}
use Rattle.fault_laws.proofs.Standing.{stand_under}
use Rattle.fault_laws.proofs.Tree.{rule}

-- what is read is there
is_read : {T : Type 0} (P Q : T → Type 0) (read : Option T) → (read ≡ None → ⊥) → IfSome read (λ t. P t × Q t) → (t : T) × P t × Q t
is_read P Q None some found = absurd (some refl)
is_read P Q (Some t) some found = (t, found.0, found.1)

there : {A : Type 0} (o : Option A) → (o ≡ None → ⊥) → is_some o ≡ true
there None some = absurd (some refl)
there (Some x) some = refl

module _ (r : Status) (content : List DirectoryRecord) (g : Group) (i : DescribeIn content r g) where
  are : AreReadable content
  are = readable_is content (readable content i.items i.ordered i.are) i.ordered

  needed : HasNeeded content
  needed = needed_is content
      (there (record_at content templates_key) (λ e. none_absent content i.items i.ordered i.are r g templates_key i.describes e (inl refl)))
      (there (record_at content settings_key) (λ e. none_absent content i.items i.ordered i.are r g settings_key i.describes e (inr refl)))

  -- ---- each table is made of the records

  abbrev files_in : Option (List files.NumberedFile)
  files_in = read_from files.is_key_of_file (files.add_record nat_cmp files.file_of_item) [] content

  files_there : (t : List files.NumberedFile) × files.IsFileTable t × (of_kinds files.is_key_of_file content ≡ map files.record_of_file t)
  files_there = is_read files.IsFileTable (λ t. of_kinds files.is_key_of_file content ≡ map files.record_of_file t) files_in
      (files_read content files_in are (λ t fits same. file_laws.table_again content files_in t refl fits same)) (file_laws.table_found content files_in refl)

  abbrev chunks_in : Option (List extents.Chunked)
  chunks_in = extents.without_gap (read_from extents.is_chunk extents.add_chunk_record [] content)

  chunks_there : (t : List extents.Chunked) × extents.IsExtentTable t × (of_kinds extents.is_chunk content ≡ map extents.record_of_chunk t)
  chunks_there = is_read extents.IsExtentTable (λ t. of_kinds extents.is_chunk content ≡ map extents.record_of_chunk t) chunks_in
      (extents_read content chunks_in are (λ t fits same. no_gap content i.items i.ordered i.are r g i.describes t fits same) (λ t fits same. extent_laws.table_again content chunks_in t refl fits same))
      (extent_laws.table_found content chunks_in refl)

  abbrev nodes_in : Option (List nodes.Numbered)
  nodes_in = read_from nodes.is_key_of_node (add_item nodes.is_before (entry_of_record nodes.node_of_item)) [] content

  nodes_there : (t : List nodes.Numbered) × nodes.IsNodeTable t × (of_kinds nodes.is_key_of_node content ≡ map nodes.record_of_node t)
  nodes_there =
      let n = is_read (IsItemTable nodes.is_before nodes.item_of_node) (λ t. of_kinds nodes.is_key_of_node content ≡ map nodes.record_of_node t) nodes_in
      (tree_read content nodes_in are (λ t fits same. rule content i.items i.ordered i.are r g i.describes t fits same) (λ t fits same. node_laws.nodes_again content nodes_in refl t fits.items same))
      (node_laws.nodes_found content nodes_in refl) in
      (n.0, record { items = n.1; rule = rule content i.items i.ordered i.are r g i.describes n.0 n.1 n.2 }, n.2)

  abbrev templates_in : Option templates.Table
  templates_in = templates.table_of (of_kinds templates.is_key_of_templates content)

  templates_there : (t : templates.Table) × templates.IsTemplateTable t × (of_kinds templates.is_key_of_templates content ≡ templates.records_of_templates t)
  templates_there = is_read templates.IsTemplateTable (λ t. of_kinds templates.is_key_of_templates content ≡ templates.records_of_templates t) templates_in
      (templates_read content templates_in are needed (λ t fits same. template_laws.table_again (of_kinds templates.is_key_of_templates content) templates_in t refl fits same))
      (template_laws.table_found (of_kinds templates.is_key_of_templates content) templates_in refl)

  abbrev marks_in : Option (List stale.Marked)
  marks_in = read_from stale.is_marks (stale.add_record chunk_cmp stale.marks_of_item) [] content

  marks_there : (t : List stale.Marked) × stale.IsMarkTable t × (of_kinds stale.is_marks content ≡ map stale.record_of_marks t)
  marks_there = is_read stale.IsMarkTable (λ t. of_kinds stale.is_marks content ≡ map stale.record_of_marks t) marks_in
      (stale_read content marks_in are (λ t fits same. stale_laws.table_again content marks_in t refl fits same)) (stale_laws.table_found content marks_in refl)

  abbrev operations_in : Option operations.Operations
  operations_in = read_from operations.is_operation operation_readings.add_operation_record operations.nothing_begun content

  operations_there : (t : operations.Operations) × operations.IsOperationTable t × (of_kinds operations.is_operation content ≡ operations.records_of_operations t)
  operations_there = is_read operations.IsOperationTable (λ t. of_kinds operations.is_operation content ≡ operations.records_of_operations t) operations_in
      (operations_read content operations_in are (λ t fits same. operation_laws.table_again content operations_in t refl fits same)) (operation_laws.table_found content operations_in refl)

  abbrev disks_in : Option (List disks.Disk)
  disks_in = read_from disks.is_key_of_disk (disks.add_record nat_cmp disks.disk_of_item) [] content

  disks_there : (t : List disks.Disk) × disks.IsDiskTable t × (of_kinds disks.is_key_of_disk content ≡ map disks.record_of_disk t)
  disks_there = is_read disks.IsDiskTable (λ t. of_kinds disks.is_key_of_disk content ≡ map disks.record_of_disk t) disks_in
      (disks_read content disks_in are (λ t fits same. disk_laws.table_again content disks_in t refl fits same)) (disk_laws.table_found content disks_in refl)

  -- ---- all of them

  tables : Tables
  tables = record {
    files = files_there.0;
    extents = chunks_there.0;
    nodes = nodes_there.0;
    templates = templates_there.0;
    stale = marks_there.0;
    operations = operations_there.0;
    disks = disks_there.0;
  }

  are_tables : AreTables tables
  unfolding tables
  are_tables = record {
    files = files_there.1;
    extents = chunks_there.1;
    nodes = nodes_there.1;
    templates = templates_there.1;
    stale = marks_there.1;
    operations = operations_there.1;
    disks = disks_there.1;
  }

  have : HasRecords content tables
  unfolding tables
  have = record {
    all = are.all;
    files = files_there.2;
    extents = chunks_there.2;
    nodes = nodes_there.2;
    templates = templates_there.2;
    stale = marks_there.2;
    operations = operations_there.2;
    disks = disks_there.2;
  }

pub have_catalog : DescribedHaveCatalog
have_catalog r content g ok i =
    let t = tables r content g i in
    let a = are_tables r content g i in
    let has = have r content g i in
    let s = stand_under r i.items t g ok a (items_of_records content t i.items a has i.are) i.describes in
    record {
      catalog = record { tables = t; shape = g.shape; units = s.units.0; next = None; next_units = None };
      shape_is = refl;
      is = record { records = has; rules = s.rules; infos = s.infos; regular = s.regular; units = s.units.1 };
    }
