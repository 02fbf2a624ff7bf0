use Rattle.std.proofs.Common.{sym, ◌∙◌, arith}
use Rattle.new_disks.proofs.Counting.{more_here, same_here}
use Rattle.new_disks.proofs.failure_groups.+regular_groups.Goals as goal

pub returns-then-adds_group-clause-count : goal.returns-then-adds_group-clause-count
returns-then-adds_group-clause-count t c =
    more_here c.args.disks.now c.first-item.result c.regular_groups-others.result (omega arith) c.first-item.is (sym c.if-adds_group.true ∙ c.adds_group.ensures) c.regular_groups-others.ensures.count

pub returns-else-adds_group-clause-count : goal.returns-else-adds_group-clause-count
returns-else-adds_group-clause-count t c =
    same_here c.args.disks.now c.first-item.result c.regular_groups-others.result (omega arith) c.first-item.is (sym c.if-adds_group.false ∙ c.adds_group.ensures) c.regular_groups-others.ensures.count
