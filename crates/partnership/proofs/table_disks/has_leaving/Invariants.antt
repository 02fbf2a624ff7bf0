use Rattle.std.proofs.Common.{◌≡◌}
use Rattle.asm_placement.specs.TableDisks.{has_leaving}
use Rattle.partnership.proofs.TableSets.{leaving_from}
use Rattle.partnership.proofs.table_disks.has_leaving.Given as goal

abbrev pub invariant-loop-d : goal.invariant-loop-d
invariant-loop-d l = leaving_from l.disks l.set l.d ≡ has_leaving l.disks l.set
