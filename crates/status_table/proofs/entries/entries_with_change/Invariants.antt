use Rattle.std.proofs.Common.{◌≡◌, length, map, take}
use Rattle.status_table.specs.EntryChanges.{entry_with}
use Rattle.status_table.proofs.entries.entries_with_change.Given as goal

abbrev pub invariant-loop-i : goal.invariant-loop-i
invariant-loop-i l = record {
  made : take l.i l.made ≡ map (entry_with l.disk l.change) (take l.i l.entries);
  size : length l.made ≡ 64;
}
