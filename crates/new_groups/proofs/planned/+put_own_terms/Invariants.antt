use Rattle.std.proofs.Common.{length}
use Rattle.new_groups.proofs.planned.+put_own_terms.Given as goal

abbrev pub decreases-put_own_terms : goal.decreases-put_own_terms
decreases-put_own_terms l = length l.disks.now
