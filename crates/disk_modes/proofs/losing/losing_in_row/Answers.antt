use Rattle.std.proofs.Common.{sym, ◌∙◌, arith}
use Rattle.group_reports.proofs.Counting.{row_lost, row_not_lost}
use Rattle.disk_modes.specs.Losing.{is_losing}
use Rattle.disk_modes.proofs.losing.losing_in_row.Goals as goal

pub returns-then-is_some : goal.returns-then-is_some
returns-then-is_some c =
    row_lost (is_losing c.args.counted.now c.args.disks.now c.args.named) c.args.catalog.now c.args.file c.args.copies c.loop-homes.index c.loop-homes.homes-index c.args.extents.now c.homes-item.result c.losing_there-found.result _
    c.loop-homes-test.true c.homes-item.is c.losing_there-found.ensures (sym c.is_some.ensures ∙ c.if-is_some.true) c.loop-homes.invariant.after

pub loop-homes-preserved : goal.loop-homes-preserved
loop-homes-preserved c = record {
  after = row_not_lost (is_losing c.args.counted.now c.args.disks.now c.args.named) c.args.catalog.now c.args.file c.args.copies c.loop-homes.index c.loop-homes.homes-index c.args.extents.now c.homes-item.result c.losing_there-found.result _
      c.loop-homes-test.true c.homes-item.is c.losing_there-found.ensures (sym c.is_some.ensures ∙ c.if-is_some.false) c.loop-homes.invariant.after;
  index = omega (arith, c.loop-homes.invariant.index);
}
