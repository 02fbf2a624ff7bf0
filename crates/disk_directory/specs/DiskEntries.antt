-- The item of a disk is what its record says, and each item of such a key is that of a disk.
use Rattle.std.proofs.Common.{refl, inl, inr}
use Rattle.asm_formats.specs.Items.{Item, disk_item}
use Rattle.asm_base.proofs.ItemTables.{AreEntries, IsEntry}
use Rattle.item_table.proofs.Entries.{IsKnown, entry_laws}
use Rattle.disk_directory.specs.Disks.{disk_of_item, is_key_of_disk, item_of_disk}

each_item : (i : Item) → IsKnown is_key_of_disk item_of_disk disk_of_item i
each_item (disk_item d info) = inl ((d, info), refl)
each_item _ = inr (refl, refl)

pub disk_entries : IsEntry item_of_disk disk_of_item × AreEntries is_key_of_disk item_of_disk
disk_entries = entry_laws is_key_of_disk item_of_disk disk_of_item each_item (λ x. refl)
