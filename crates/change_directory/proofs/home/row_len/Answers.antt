use Rattle.std.proofs.Common.{sym, arith}
use Rattle.change_directory.proofs.Homing.{row_more}
use Rattle.change_directory.proofs.home.row_len.Goals as goal

pub loop-page-preserved : goal.loop-page-preserved
loop-page-preserved c = record {
  counted = omega (arith, c.loop-page.invariant.counted);
  few = omega (arith, c.loop-page.invariant.few);
  row = row_more _ c.loop-page.count c.loop-page.page-index c.args.pages.now _ (sym c.loop-page.invariant.counted) c.loop-page-test.true c.if-page-before.false c.loop-page.invariant.row;
}
