-- The table of disk records, as the list of them in the order of their numbers.
use Rattle.std.specs.Prelude.{ℕ, Bool, ◌==◌, ◌&&◌, nat_lt, List, Option, Some, None}
use Rattle.std.specs.Ordering.{nat_cmp}
use Rattle.asm_formats.specs.Items.{DiskInfo, Item, Key, disk_item, disks_kind}
use Rattle.asm_base.specs.Records.{DirectoryRecord}
use Rattle.item_table.specs.Tables.{IsTable as IsKeyTable, bytes_at, record_of as key_record}
-- what the record of a disk says, and the table with another record of it or without it
pub use Rattle.item_table.specs.Numbers.{at_number as info_at, with_number as with_info, without_number as without_disk, is_lower_number as is_lower_disk}
pub use Rattle.item_table.specs.Tables.{add_record}

-- a disk's number and what its record says
abbrev pub Disk : Type 0
Disk = ℕ × DiskInfo

abbrev pub item_of_disk : Disk → Item
item_of_disk x = disk_item x.0 x.1

abbrev pub is_key_of_disk : Key → Bool
is_key_of_disk k = (k.kind == disks_kind) && ((k.b == 0) && nat_lt k.a 64)

-- the disk of which an item is that
abbrev pub disk_of_item : Item → Option Disk
disk_of_item (disk_item d info) = Some (d, info)
disk_of_item _ = None

abbrev pub record_of_disk : Disk → DirectoryRecord
record_of_disk x = key_record item_of_disk x

-- the value of the record of a disk
abbrev pub disk_value_at : List Disk → ℕ → Option (List ℕ)
disk_value_at disks d = bytes_at nat_cmp item_of_disk disks d

-- disks by number, each with what a record may say
abbrev pub IsDiskTable : List Disk → Type 0
IsDiskTable disks = IsKeyTable nat_cmp item_of_disk disks
