use Rattle.std.proofs.Common.{[], ◌∙◌, arith}
use Rattle.std.proofs.lemmas.List.{get_or_default}
use Rattle.disk_modes.proofs.Ends.{all_before, none_before, one_before}
use Rattle.disk_modes.proofs.sizes.end_behind.Goals as goal

pub loop-homes-init : goal.loop-homes-init
loop-homes-init c = record { ends = none_before c.args.catalog.now.shape.step (c.args.at, c.args.extents.now) c.args.ends.now; number = omega arith }

pub loop-homes-preserved : goal.loop-homes-preserved
loop-homes-preserved c = record {
  ends = one_before c.args.catalog.now.shape.step c.loop-homes.homes-index c.loop-homes.index (c.args.at, c.args.extents.now) c.homes-item.result c.loop-homes.invariant.number
      (c.homes-item.is ∙ get_or_default c.args.extents.now c.loop-homes.homes-index c.homes-item.result [] c.loop-homes-test.true) c.loop-homes.invariant.ends c.end_behind_homes.ensures;
  number = omega (arith, c.loop-homes.invariant.number);
}

pub returns : goal.returns
returns c = all_before c.args.catalog.now.shape.step c.loop-homes.homes-index (c.args.at, c.args.extents.now) c.loop-homes-test.false c.loop-homes.invariant.ends
