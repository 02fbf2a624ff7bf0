use Rattle.relocation.proofs.Chains.{commits_go, goes_short, nothing_lets}
use Rattle.relocation.proofs.slicing.do_step.Goals as goal

pub returns-in-Status : goal.returns-in-Status
returns-in-Status g c = commits_go c.move_tables.result (c.requires.takes c.requires.mounted).0 c.move_tables.ensures

pub returns-in-End : goal.returns-in-End
returns-in-End g c = goes_short (nothing_lets c.args.m.now (g.B.Bay.state c.args.bay.now) c.requires.takes)

pub returns-in-Unknown : goal.returns-in-Unknown
returns-in-Unknown g c = goes_short (nothing_lets c.args.m.now (g.B.Bay.state c.args.bay.now) c.requires.takes)
