use Rattle.group_engine.proofs.Endings.{stands_here}
use Rattle.group_engine.proofs.mounted.Mounted.end_pending.Goals as goal

pub returns-in-Dismounted-clause-moments : goal.returns-in-Dismounted-clause-moments
returns-in-Dismounted-clause-moments g c = stands_here c.args.self.now (g.B.Bay.state c.args.bay.now)

pub returns-in-Closed-clause-moments : goal.returns-in-Closed-clause-moments
returns-in-Closed-clause-moments g c = stands_here c.args.self.now (g.B.Bay.state c.args.bay.now)
