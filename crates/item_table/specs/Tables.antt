-- Tables by key, as the list of what they keep in the order of the keys.
use Rattle.std.specs.Prelude.{ℕ, Bool, List, Option, is_some}
use Rattle.std.specs.Ordering.{is_lt}
use Rattle.std.specs.declared.cmp.Ordering.{Ordering}
use Rattle.std.specs.declared.ops.Bound.TheVariants.{Included, Unbounded}
use Rattle.std.specs.BTreeMap.{is_at, insert_entry}
use Rattle.std.specs.BTreeMap.Range.{entries_between}
use Rattle.std.specs.Map.{lookup, remove_entry}
use Rattle.std.specs.Option.{option_map}
use Rattle.asm_base.specs.asm_formats.Items.{Item}
use Rattle.asm_base.specs.asm_formats.Values.{value}
use Rattle.asm_base.specs.Records.{DirectoryRecord, add_item}
use Rattle.asm_base.specs.Tables.{IsItemTable, entry_of_record, item_record}

-- what is kept at a key
abbrev pub at_key : {K T : Type 0} → (K → K → Ordering) → List (K × T) → K → Option T
at_key cmp table key = lookup (is_at (cmp key)) table

abbrev pub has_key : {K T : Type 0} → (K → K → Ordering) → List (K × T) → K → Bool
has_key cmp table key = is_some (at_key cmp table key)

-- the table that keeps this at a key, and the one without the key
abbrev pub with_key : {K T : Type 0} → (K → K → Ordering) → List (K × T) → K → T → List (K × T)
with_key cmp table key kept = insert_entry cmp table key kept

abbrev pub without_key : {K T : Type 0} → (K → K → Ordering) → List (K × T) → K → List (K × T)
without_key cmp table key = remove_entry (is_at (cmp key)) table

-- what is kept at the keys from this one on, in order
abbrev pub from_key : {K T : Type 0} → (K → K → Ordering) → List (K × T) → K → List (K × T)
from_key cmp table key = entries_between cmp (Included key) Unbounded table

abbrev pub is_key_before : {K : Type 0} → (K → K → Ordering) → K → K → Bool
is_key_before cmp j k = is_lt (cmp j k)

-- the keys ascend, and each entry is an item of the formats
abbrev pub IsTable : {K T : Type 0} → (K → K → Ordering) → (K × T → Item) → List (K × T) → Type 0
IsTable cmp item_of table = IsItemTable (is_key_before cmp) item_of table

-- ---- records

-- the record of an entry
abbrev pub record_of : {X : Type 0} → (X → Item) → X → DirectoryRecord
record_of item_of x = item_record (item_of x)

-- the value of the record of a key
abbrev pub bytes_at : {K T : Type 0} → (K → K → Ordering) → (K × T → Item) → List (K × T) → K → Option (List ℕ)
bytes_at cmp item_of table key = option_map value (option_map (λ kept. item_of (key, kept)) (at_key cmp table key))

-- the table with the entry of one record more, where it comes behind the others
abbrev pub add_record : {K T : Type 0} → (K → K → Ordering) → (Item → Option (K × T)) → List (K × T) → DirectoryRecord → Option (List (K × T))
add_record cmp entry_of table e = add_item (is_key_before cmp) (entry_of_record entry_of) table e
