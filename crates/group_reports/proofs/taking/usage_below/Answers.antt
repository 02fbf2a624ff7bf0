use Rattle.std.proofs.Common.{arith}
use Rattle.group_reports.proofs.Sums.{taken_start}
use Rattle.group_reports.proofs.taking.usage_below.Goals as goal

pub loop-number-init : goal.loop-number-init
loop-number-init c = record { taken = taken_start c.args.catalog.now c.args.group.now c.args.dir.now c.none-usage.result c.none-usage.ensures; few = omega arith }
