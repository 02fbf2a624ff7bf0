use Rattle.std.proofs.Common.{length}
use Rattle.group_recovery.proofs.alike.+first_clash.Given as goal

abbrev pub decreases-first_clash : goal.decreases-first_clash
decreases-first_clash l = length l.others.now
