use Rattle.std.proofs.Common.{◌≡◌, drop}
use Rattle.partnership.specs.Candidates.{among, candidates, may_take_of, candidate_tried_first}
use Rattle.partnership.proofs.replacement.first_eligible.Given as goal

abbrev pub invariant-loop-i : goal.invariant-loop-i
invariant-loop-i l = l.best ≡ candidate_tried_first (among (may_take_of l.on l.disks l.kept l.holders) (candidates l.n (drop l.i l.disks) l.units))
