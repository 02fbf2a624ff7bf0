-- The table of files, as the list of their heads in the order of their numbers.
use Rattle.std.specs.Prelude.{ℕ, Bool, ◌==◌, ◌&&◌, List, Option, Some, None}
use Rattle.std.specs.Ordering.{nat_cmp}
use Rattle.asm_formats.specs.Items.{FileHead, Item, Key, file_item, files_kind}
use Rattle.asm_base.specs.Records.{DirectoryRecord}
use Rattle.item_table.specs.Tables.{IsTable as IsKeyTable, record_of as key_record}
-- the head of a file, whether there is one, and the table with another head of it or without it
pub use Rattle.item_table.specs.Numbers.{at_number as head_at, has_number as is_file_number, with_number as with_head, without_number as without_head}
pub use Rattle.item_table.specs.Tables.{add_record}
-- the order of numbers: the least number of a file that isn't below another one, and the least such number that no file has
pub use Rattle.item_table.specs.Numbers.{is_lower_number as is_lower_file, IsLeastNumberFrom as IsLeastFrom, IsFreeNumberFrom as IsFreeFrom}

-- a file's number and its head
abbrev pub NumberedFile : Type 0
NumberedFile = ℕ × FileHead

-- what the record of a file says
abbrev pub item_of_file_head : NumberedFile → Item
item_of_file_head x = file_item x.0 x.1

-- the records of heads: those of kind 1 that are no chunk
abbrev pub is_key_of_file : Key → Bool
is_key_of_file k = (k.kind == files_kind) && (k.b == 0)

-- the file of which an item is that
abbrev pub file_of_item : Item → Option NumberedFile
file_of_item (file_item f h) = Some (f, h)
file_of_item _ = None

abbrev pub record_of_file : NumberedFile → DirectoryRecord
record_of_file x = key_record item_of_file_head x

-- files by number, each with a head that a record may have
abbrev pub IsFileTable : List NumberedFile → Type 0
IsFileTable files = IsKeyTable nat_cmp item_of_file_head files
