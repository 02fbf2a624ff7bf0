use Rattle.std.proofs.Common.{take}
use Rattle.disk_modes.specs.Finding.{IsSetOf, is_serving}
use Rattle.disk_modes.proofs.finding.all_serving.Given as goal

abbrev pub invariant-loop-entry : goal.invariant-loop-entry
invariant-loop-entry l = IsSetOf (is_serving l.m) (take l.entry-index l.entries) l.disks
