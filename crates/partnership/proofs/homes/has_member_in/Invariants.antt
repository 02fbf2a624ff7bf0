use Rattle.std.proofs.Common.{◌≡◌, drop}
use Rattle.std.specs.List.{list_any}
use Rattle.partnership.specs.Candidates.{among, candidates, is_disk_in_set}
use Rattle.partnership.specs.Steps.{is_candidate_of_failgroup}
use Rattle.partnership.proofs.homes.has_member_in.Given as goal

abbrev pub invariant-loop-i : goal.invariant-loop-i
invariant-loop-i l = list_any (is_candidate_of_failgroup l.failgroup) (among (is_disk_in_set l.set) (candidates l.room.n (drop l.i l.disks) l.room.maps)) ≡ list_any (is_candidate_of_failgroup l.failgroup) (among (is_disk_in_set l.set) (candidates l.room.n l.disks l.room.maps))
