-- The content of pages that show a table.
use Rattle.std.specs.Prelude.{◌≡◌, ℕ, List, map, Some, IsTrue}
use Rattle.std.specs.List.{range_with_len}
use Rattle.asm_formats.specs.asm_group.Names.{Bytes}
use Rattle.asm_formats.specs.Among.{IsAmong}
use Rattle.asm_formats.specs.Content.{records_in}
use Rattle.asm_formats.specs.Items.{Item, Key, item_key, is_item}
use Rattle.asm_formats.specs.PageLaws.{are_in_order}
use Rattle.asm_formats.specs.Values.{value}
use Rattle.allocator.specs.asm_base.Records.{record_at}
use Rattle.page_map.specs.Tables.{PageTable, IsPageTable, Shows}

-- an item of the formats with this key and this value
pub record IsItemOf (k : Key) (v : List ℕ) (i : Item) : Type 0 where
  pub is : IsTrue (is_item i)
  pub key : item_key i ≡ k
  pub value : value i ≡ v

-- each record is one of the formats
abbrev pub AreItems : PageTable → Type 0
AreItems t = (k : Key) (v : List ℕ) → record_at t.records k ≡ Some v → (i : Item) × IsItemOf k v i

-- the items are the records of the table, in the order of their keys
pub record AreRecords (t : PageTable) (items : List Item) : Type 0 where
  pub in_order : IsTrue (are_in_order items)
  pub from_record : (k : Key) (v : List ℕ) → record_at t.records k ≡ Some v → (i : Item) × IsAmong items i × IsItemOf k v i
  pub to_record : (i : Item) → IsAmong items i → record_at t.records (item_key i) ≡ Some (value i)

-- Pages that show a table of items have its records.
abbrev pub ShownIsContent : Type 0
ShownIsContent =
    (t : PageTable) (page : ℕ → Bytes) → IsPageTable t → Shows t page → AreItems t
    → (items : List Item) × (records_in (map page (range_with_len 0 t.free.units)) ≡ Some items) × AreRecords t items
