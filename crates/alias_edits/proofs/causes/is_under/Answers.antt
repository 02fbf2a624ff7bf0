use Rattle.std.proofs.Common.{arith}
use Rattle.alias_tree.proofs.Paths.{under_done}
use Rattle.alias_edits.proofs.causes.is_under.Goals as goal

pub returns : goal.returns
returns c = under_done c.args.dir.now c.args.path.now c.loop-i.i (omega arith) (omega arith) (omega arith) c.loop-i.invariant
