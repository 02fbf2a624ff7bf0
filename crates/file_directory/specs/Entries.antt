-- The item of a file is its head, and each item of a head's key is that of a file.
use Rattle.std.proofs.Common.{◌+◌, refl, inl, inr, arith}
use Rattle.std.proofs.lemmas.Bool.{ne_eqb}
use Rattle.asm_formats.specs.Items.{Item, file_item, chunk_item}
use Rattle.asm_base.proofs.ItemTables.{AreEntries, IsEntry}
use Rattle.item_table.proofs.Entries.{IsKnown, entry_laws}
use Rattle.file_directory.specs.Files.{file_of_item, is_key_of_file, item_of_file_head}

each_item : (i : Item) → IsKnown is_key_of_file item_of_file_head file_of_item i
each_item (file_item f h) = inl ((f, h), refl)
each_item (chunk_item f c homes) = inr (ne_eqb (c + 1) 0 (λ same. omega (arith, same)), refl)
each_item _ = inr (refl, refl)

pub file_entries : IsEntry item_of_file_head file_of_item × AreEntries is_key_of_file item_of_file_head
file_entries = entry_laws is_key_of_file item_of_file_head file_of_item each_item (λ x. refl)
