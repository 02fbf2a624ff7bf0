use Rattle.std.proofs.Common.{◌≡◌, ◌≤◌, ◌+◌, length}
use Rattle.asm_placement.specs.DiskSets.{distinct_failgroups}
use Rattle.partnership.proofs.FailureGroups.{groups_from}
use Rattle.partnership.proofs.failure_groups.group_count.Given as goal

abbrev pub invariant-loop-i : goal.invariant-loop-i
invariant-loop-i l = record {
  counted : l.count + length (groups_from l.disks l.i) ≡ length (distinct_failgroups l.disks);
  few : l.count ≤ l.i;
}
