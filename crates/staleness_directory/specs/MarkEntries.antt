-- The item of a chunk's marks is an entry, and each item of such a key is that of one.
use Rattle.std.proofs.Common.{refl, inl, inr}
use Rattle.asm_formats.specs.Items.{Item, marks_item}
use Rattle.asm_base.proofs.ItemTables.{AreEntries, IsEntry}
use Rattle.item_table.proofs.Entries.{IsKnown, entry_laws}
use Rattle.staleness_directory.specs.Marks.{is_marks, item_of_marks, marks_of_item}

each_item : (i : Item) → IsKnown is_marks item_of_marks marks_of_item i
each_item (marks_item f c marks) = inl (((f, c), marks), refl)
each_item _ = inr (refl, refl)

pub marks_entries : IsEntry item_of_marks marks_of_item × AreEntries is_marks item_of_marks
marks_entries = entry_laws is_marks item_of_marks marks_of_item each_item (λ x. refl)
