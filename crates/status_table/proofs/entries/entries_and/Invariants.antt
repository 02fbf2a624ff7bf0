use Rattle.std.proofs.Common.{◌≡◌, ◌++◌, length, take, drop}
use Rattle.status_table.specs.Changes.{entries_with}
use Rattle.status_table.proofs.entries.entries_and.Given as goal

abbrev pub invariant-loop-i : goal.invariant-loop-i
invariant-loop-i l = record {
  made : take l.i l.made ++ entries_with l.left (drop l.i l.entries) ≡ entries_with l.fn.added l.entries;
  size : length l.made ≡ 64;
}
