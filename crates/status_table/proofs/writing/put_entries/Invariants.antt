use Rattle.std.proofs.Common.{◌≡◌, ◌+◌, ◌*◌, ◌∷◌, length, take}
use Rattle.std.specs.List.{flat_map}
use Rattle.asm_formats.specs.Status.{entry_fields}
use Rattle.asm_base.specs.Cursors.{PutsField}
use Rattle.status_table.proofs.writing.put_entries.Given as goal

abbrev pub invariant-loop-entry : goal.invariant-loop-entry
invariant-loop-entry l = record {
  put : PutsField l.fn.to l.to (length l.entries ∷ flat_map entry_fields (take l.entry-index l.entries));
  at : l.to.at ≡ l.fn.to.at + 1 + 40 * l.entry-index;
}
