use Rattle.std.proofs.Common.{length}
use Rattle.new_disks.proofs.taken.+has_clash.Given as goal

abbrev pub decreases-has_clash : goal.decreases-has_clash
decreases-has_clash l = length l.others.now
