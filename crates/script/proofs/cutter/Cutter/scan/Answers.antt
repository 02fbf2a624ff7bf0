use Rattle.script.proofs.Going.{at-end}
use Rattle.script.proofs.cutter.Cutter.scan.Goals as goal

pub returns : goal.returns
returns c = at-end c.args.self c.loop-cutter.cutter _ c.loop-cutter-test.false c.loop-cutter.invariant.0 c.loop-cutter.invariant.1
