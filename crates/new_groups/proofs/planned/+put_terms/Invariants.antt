use Rattle.std.proofs.Common.{length}
use Rattle.new_groups.proofs.planned.+put_terms.Given as goal

abbrev pub decreases-put_terms : goal.decreases-put_terms
decreases-put_terms l = length l.groups.now
