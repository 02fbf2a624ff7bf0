use Rattle.std.proofs.Common.{◌≡◌, drop}
use Rattle.partnership.specs.Candidates.{among, candidates, may_be_first_candidate, candidate_tried_first}
use Rattle.partnership.proofs.homes.first_disk.Given as goal

abbrev pub invariant-loop-i : goal.invariant-loop-i
invariant-loop-i l = l.best ≡ candidate_tried_first (among (may_be_first_candidate (candidates l.room.n l.disks l.room.maps) l.copies) (candidates l.room.n (drop l.i l.disks) l.room.maps))
