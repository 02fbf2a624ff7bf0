use Rattle.std.proofs.Common.{◌≤◌, ◌-◌, ◌^◌}
use Rattle.group_reports.proofs.Sums.{AreTaken}
use Rattle.group_reports.proofs.taking.usage_below.Given as goal

abbrev pub invariant-loop-number : goal.invariant-loop-number
invariant-loop-number l = record {
  taken : AreTaken l.catalog l.group l.dir l.least l.usage;
  few : l.least ≤ 2 ^ 32;
}

abbrev pub decreases-loop-number : goal.decreases-loop-number
decreases-loop-number l = 2 ^ 32 - l.least
