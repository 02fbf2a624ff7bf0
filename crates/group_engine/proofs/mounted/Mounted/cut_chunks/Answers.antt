use Rattle.std.proofs.Common.{Ok, Err}
use Rattle.group_engine.proofs.Endings.{ends_begin, ends_on}
use Rattle.group_engine.proofs.mounted.Mounted.cut_chunks.Goals as goal

pub loop-i-init : goal.loop-i-init
loop-i-init g c = ends_begin c.args.self.now (g.B.Bay.state c.args.bay.now) c.requires.mounted c.requires.whole c.requires.ready

pub loop-i-preserved : goal.loop-i-preserved
loop-i-preserved g c = ends_on (Ok tt) c.loop-i.invariant c.in-Ok.ensures

pub returns-in-Err : goal.returns-in-Err
returns-in-Err g c = ends_on (Err c.in-Err.refusal) c.loop-i.invariant c.in-Err.ensures
