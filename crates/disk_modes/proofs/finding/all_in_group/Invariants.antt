use Rattle.std.proofs.Common.{take}
use Rattle.disk_modes.specs.Finding.{IsSetOf, is_in_failgroup_of_sort}
use Rattle.disk_modes.proofs.finding.all_in_group.Given as goal

abbrev pub invariant-loop-entry : goal.invariant-loop-entry
invariant-loop-entry l = IsSetOf (is_in_failgroup_of_sort l.m.catalog l.sort l.name) (take l.entry-index l.entries) l.disks
