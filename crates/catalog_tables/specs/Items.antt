-- The tables of a group as the items of its directories.
use Rattle.std.specs.Prelude.{◌≡◌, ℕ, ◌*◌, List, flat_map, Some, IsTrue}
use Rattle.std.specs.List.{list_all}
use Rattle.asm_group.specs.Shape.{Shape}
use Rattle.asm_formats.specs.Among.{IsAmong}
use Rattle.asm_formats.specs.Items.{Item, Key, chunk_len, is_item, item_key}
use Rattle.asm_formats.specs.PageLaws.{are_in_order}
use Rattle.asm_formats.specs.Sets.{has_bit}
use Rattle.asm_formats.specs.Status as status
use Rattle.asm_formats.specs.Status.{ascends_from, is_entry}
use Rattle.asm_formats.specs.Values.{value}
use Rattle.partnership.specs.asm_placement.Copies.{Copy, all_copies, file_copies}
use Rattle.partnership.specs.asm_placement.DiskSets.{numbers}
use Rattle.partnership.specs.asm_placement.Placed.{placed}
use Rattle.partnership.specs.asm_placement.Tables.{head_of, homes_in, is_stale, marks_in}
use Rattle.partnership.specs.asm_placement.Work.{keys_differ}
use Rattle.asm_base.specs.Records.{DirectoryRecord, record_at}
use Rattle.page_map.specs.allocator.UnitMaps.{UnitMap}
use Rattle.partnership.specs.UnitsOf.{AreUnitsOf}
use Rattle.extent_map.specs.Extents.{Chunked, chunk_at}
use Rattle.file_directory.specs.Files.{head_at}
use Rattle.staleness_directory.specs.Marks.{marks_at}
use Rattle.catalog_tables.specs.Tables.{AreTables, HasRecords, Tables, item_at, records_of}
use Rattle.catalog_tables.specs.Placing.{HasUnits, homes_of}
use Rattle.catalog_tables.specs.Rules.{marks_of}
use Rattle.page_map.specs.Contents.{IsItemOf}

-- the items are those of the tables, in the order of their keys
pub record AreItemsOf (t : Tables) (items : List Item) : Type 0 where
  pub in_order : IsTrue (are_in_order items)
  pub from_table : (k : Key) (i : Item) → item_at t k ≡ Some i → IsAmong items i
  pub to_table : (i : Item) → IsAmong items i → item_at t (item_key i) ≡ Some i

-- All tables have items.
abbrev pub TablesHaveItems : Type 0
TablesHaveItems = (t : Tables) → AreTables t → (items : List Item) × AreItemsOf t items

-- Two lists of the items of some tables are one list.
abbrev pub ItemsAreOneList : Type 0
ItemsAreOneList = (t : Tables) (a b : List Item) → AreItemsOf t a → AreItemsOf t b → a ≡ b

-- ---- by the records

-- the items are the records, in the order of their keys
pub record AreItemsIn (content : List DirectoryRecord) (items : List Item) : Type 0 where
  pub in_order : IsTrue (are_in_order items)
  pub from_record : (k : Key) (v : List ℕ) → record_at content k ≡ Some v → (i : Item) × IsAmong items i × IsItemOf k v i
  pub to_record : (i : Item) → IsAmong items i → record_at content (item_key i) ≡ Some (value i)

-- The items of some records are those of the tables that have these.
abbrev pub ItemsOfRecords : Type 0
ItemsOfRecords = (content : List DirectoryRecord) (t : Tables) (items : List Item) → AreTables t → HasRecords content t → AreItemsIn content items → AreItemsOf t items

-- The tables of some records say at each key what the record of the key says.
abbrev pub RecordsAreTold : Type 0
RecordsAreTold = (content : List DirectoryRecord) (t : Tables) → AreTables t → HasRecords content t → (k : Key) → records_of t k ≡ record_at content k

-- ---- what the items say

-- the copies of a chunk's extents, where its file has a head
abbrev pub chunk_copies : Tables → Chunked → List Copy
chunk_copies t x = file_copies x.0.0 (x.0.1 * chunk_len) x.1 (head_at t.files x.0.0)

-- the items say what the tables say
pub record SayTables (t : Tables) (items : List Item) : Type 0 where
  -- each is one of the formats, and no two have one key
  pub allowed : IsTrue (list_all is_item items)
  pub keys : IsTrue (keys_differ items)
  -- look-ups
  pub heads : (f : ℕ) → head_of items f ≡ head_at t.files f
  pub homes : (f c : ℕ) → homes_in items f c ≡ chunk_at t.extents (f, c)
  pub marks : (f c : ℕ) → marks_in items f c ≡ marks_at t.stale (f, c)
  pub stale : (f i k : ℕ) → is_stale items f i k ≡ has_bit (marks_of t f i) k
  -- all homes, and all copies of files, chunk by chunk
  pub placed : (step : ℕ) → placed step items ≡ flat_map (homes_of step) t.extents
  pub copies : all_copies items ≡ flat_map (chunk_copies t) t.extents

abbrev pub ItemsSayTables : Type 0
ItemsSayTables = (t : Tables) (items : List Item) → AreTables t → AreItemsOf t items → SayTables t items

-- ---- units

-- The unit maps are those of the items: what no home meets is free, and the used units of each disk are those under homes.
abbrev pub UnitsOfItems : Type 0
UnitsOfItems =
    (s : Shape) (entries : List status.Entry) (t : Tables) (ms : List UnitMap) (items : List Item) → AreTables t → AreItemsOf t items
    → IsTrue (list_all is_entry entries) → IsTrue (ascends_from 0 (numbers entries)) → HasUnits s entries t ms → AreUnitsOf s items entries ms
