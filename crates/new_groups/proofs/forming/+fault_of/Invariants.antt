use Rattle.std.proofs.Common.{length}
use Rattle.new_groups.proofs.forming.+fault_of.Given as goal

abbrev pub decreases-fault_of : goal.decreases-fault_of
decreases-fault_of l = length l.disks.now
