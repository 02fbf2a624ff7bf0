use Rattle.std.proofs.Common.{length}
use Rattle.new_disks.proofs.failure_groups.+is_one_in.Given as goal

abbrev pub decreases-is_one_in : goal.decreases-is_one_in
decreases-is_one_in l = length l.rows.now
