use Rattle.std.proofs.Common.{◌-◌, ◌+◌, arith}
use Rattle.std.proofs.lemmas.List.{take_rest}
use Rattle.partnership.specs.Candidates.{is_disk_in_set}
use Rattle.partnership.proofs.Groups.{count_turn}
use Rattle.partnership.proofs.homes.group_count.Goals as goal

pub loop-i-preserved-then-is_new_group : goal.loop-i-preserved-then-is_new_group
loop-i-preserved-then-is_new_group c =
    let new = rw (take_rest c.args.disks.now (c.loop-i.i - 1 + 1)) at c.is_new_group.ensures in
    record {
      counted = rw c.if-is_new_group.true at (count_turn (is_disk_in_set c.args.set) c.args.room.now.n c.args.disks.now c.args.room.now.maps c.loop-i.i (c.loop-i.i - 1) c.index-disks-i.result c.member-next.result c.loop-i.count c.is_new_group.result
          (omega arith) (omega arith) c.index-disks-i.is c.member-next.ensures c.loop-i.invariant.counted new);
      few = omega arith;
    }

pub loop-i-preserved : goal.loop-i-preserved
loop-i-preserved c =
    let new = rw (take_rest c.args.disks.now (c.loop-i.i - 1 + 1)) at c.is_new_group.ensures in
    record {
      counted = rw c.if-is_new_group.false at (count_turn (is_disk_in_set c.args.set) c.args.room.now.n c.args.disks.now c.args.room.now.maps c.loop-i.i (c.loop-i.i - 1) c.index-disks-i.result c.member-next.result c.loop-i.count c.is_new_group.result
          (omega arith) (omega arith) c.index-disks-i.is c.member-next.ensures c.loop-i.invariant.counted new);
      few = omega arith;
    }
