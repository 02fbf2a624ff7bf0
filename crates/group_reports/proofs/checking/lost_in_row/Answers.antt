use Rattle.std.proofs.Common.{sym, ◌∙◌, arith}
use Rattle.group_reports.specs.Extents.{is_only_on}
use Rattle.group_reports.proofs.Counting.{row_lost, row_not_lost}
use Rattle.group_reports.proofs.checking.lost_in_row.Goals as goal

pub returns-then-is_some : goal.returns-then-is_some
returns-then-is_some c =
    row_lost (is_only_on c.args.disks.now c.args.disk) c.args.catalog.now c.args.file c.args.copies c.loop-homes.index c.loop-homes.homes-index c.args.extents.now c.homes-item.result c.lost_there-found.result _
    c.loop-homes-test.true c.homes-item.is c.lost_there-found.ensures (sym c.is_some.ensures ∙ c.if-is_some.true) c.loop-homes.invariant.after

pub loop-homes-preserved : goal.loop-homes-preserved
loop-homes-preserved c = record {
  after = row_not_lost (is_only_on c.args.disks.now c.args.disk) c.args.catalog.now c.args.file c.args.copies c.loop-homes.index c.loop-homes.homes-index c.args.extents.now c.homes-item.result c.lost_there-found.result _
      c.loop-homes-test.true c.homes-item.is c.lost_there-found.ensures (sym c.is_some.ensures ∙ c.if-is_some.false) c.loop-homes.invariant.after;
  index = omega (arith, c.loop-homes.invariant.index);
}
