use Rattle.std.proofs.Common.{◌≡◌, ◌≤◌, ◌+◌, drop, length}
use Rattle.partnership.specs.Candidates.{among, candidates, group_count, is_disk_in_set}
use Rattle.partnership.proofs.homes.group_count.Given as goal

abbrev pub invariant-loop-i : goal.invariant-loop-i
invariant-loop-i l = record {
  counted : l.count ≡ group_count (among (is_disk_in_set l.set) (candidates l.room.n (drop l.i l.disks) l.room.maps));
  few : l.count + l.i ≤ length l.disks;
}
