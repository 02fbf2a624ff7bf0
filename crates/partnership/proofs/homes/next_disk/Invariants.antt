use Rattle.std.proofs.Common.{◌≡◌, drop}
use Rattle.partnership.specs.Candidates.{among, candidates, candidate_tried_first}
use Rattle.partnership.specs.Steps.{is_free_partner}
use Rattle.partnership.proofs.homes.next_disk.Given as goal

abbrev pub invariant-loop-i : goal.invariant-loop-i
invariant-loop-i l = l.best ≡ candidate_tried_first (among (is_free_partner l.set l.taken) (candidates l.room.n (drop l.i l.disks) l.room.maps))
