use Rattle.std.proofs.Common.{◌≡◌, ◌≤◌, filter, take, not, ◌==◌}
use Rattle.status_table.proofs.entries.entries_without.Given as goal

abbrev pub invariant-loop-entry : goal.invariant-loop-entry
invariant-loop-entry l = record {
  few : l.made.count ≤ l.entry-index;
  made : take l.made.count l.made.items ≡ filter (λ e. not (e.number == l.disk)) (take l.entry-index l.entries);
}
