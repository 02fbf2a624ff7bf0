-- Tables of items: each entry is the item of one record, and the entries are in the order of their keys.
use Rattle.std.specs.Prelude.{List, Bool, Option, IsTrue}
use Rattle.std.specs.List.{AllByRecursion}
use Rattle.std.specs.Option.{option_and_then}
use Rattle.asm_formats.specs.Items.{Item, item_key, is_item}
use Rattle.asm_formats.specs.Values.{value, decoded_item}
use Rattle.asm_base.specs.Records.{DirectoryRecord, Ascend}

-- the record of an item
abbrev pub item_record : Item → DirectoryRecord
item_record i = (item_key i, value i)

-- what the item of a record is as an entry, where entry_of says which entry an item is
unfoldable pub entry_of_record : {X : Type 0} → (Item → Option X) → DirectoryRecord → Option X
entry_of_record entry_of e = option_and_then entry_of (decoded_item e.0 e.1)

-- the keys ascend, and each entry is an item of the formats, where item_of says which
abbrev pub IsItemTable : {K T : Type 0} → (K → K → Bool) → (K × T → Item) → List (K × T) → Type 0
IsItemTable is_below item_of entries = Ascend is_below entries × AllByRecursion (λ x. IsTrue (is_item (item_of x))) entries
