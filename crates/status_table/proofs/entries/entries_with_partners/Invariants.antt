use Rattle.std.proofs.Common.{◌≡◌, true, length, take}
use Rattle.std.specs.List.{list_all}
use Rattle.asm_formats.specs.Status.{is_entry}
use Rattle.status_table.specs.Changes.{entries_with_partners}
use Rattle.status_table.proofs.entries.entries_with_partners.Given as goal

abbrev pub invariant-loop-i : goal.invariant-loop-i
invariant-loop-i l = record {
  made : take l.i l.changed ≡ entries_with_partners (take l.i l.entries) (take l.i l.partners);
  size : length l.changed ≡ 64;
  kept : list_all is_entry l.entries ≡ true → list_all is_entry (take l.i l.changed) ≡ true;
}
