use Rattle.std.proofs.Common.{◌≡◌, ◌≤◌, take}
use Rattle.report_laws.specs.Lists.{names_before}
use Rattle.report_commands.proofs.listing.names_before.Given as goal

abbrev pub invariant-loop-other : goal.invariant-loop-other
invariant-loop-other l = record {
  counts : l.before ≡ names_before l.name (take l.other-index l.names);
  few : l.before ≤ l.other-index;
}
