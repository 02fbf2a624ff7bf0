use Rattle.std.proofs.Common.{◌≡◌, ◌+◌, ap, arith}
use Rattle.group_reports.specs.declared.checking.Checked.{Checked}
use Rattle.group_reports.proofs.Counting.{row_counted}
use Rattle.group_reports.proofs.checking.checked_row.Goals as goal

pub loop-homes-preserved : goal.loop-homes-preserved
loop-homes-preserved c =
    let extents : c.plus-checked.result.extents ≡ c.loop-homes.checked.extents + c.checked_one.result.extents = ap (λ (n : Checked). n.extents) c.plus-checked.ensures in
    let not_full : c.plus-checked.result.not_full ≡ c.loop-homes.checked.not_full + c.checked_one.result.not_full = ap (λ (n : Checked). n.not_full) c.plus-checked.ensures in
    record {
      counts = row_counted c.args.disks.now c.args.catalog.now c.args.file c.args.copies c.args.first c.loop-homes.index c.loop-homes.homes-index c.args.extents.now c.homes-item.result c.loop-homes.checked
          c.checked_one.result c.plus-checked.result c.loop-homes-test.true c.homes-item.is c.checked_one.ensures.checked c.plus-checked.ensures c.loop-homes.invariant.counts;
      index = omega (arith, c.loop-homes.invariant.index);
      few = omega (arith, extents, c.loop-homes.invariant.few, c.checked_one.ensures.few);
      fewer = omega (arith, not_full, c.loop-homes.invariant.fewer, c.checked_one.ensures.fewer);
    }
