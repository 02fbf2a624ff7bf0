use Rattle.std.proofs.Common.{arith}
use Rattle.group_engine.proofs.MayGet.{all_copies}
use Rattle.group_engine.proofs.mounted.Mounted.has_copies.Goals as goal

pub returns : goal.returns
returns c = all_copies c.args.self.now.store.copies c.args.dirs (λ d lt bit. c.loop-disk.invariant d (omega (arith, lt, c.loop-disk-test.false)) bit)
