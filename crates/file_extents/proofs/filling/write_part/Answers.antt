use Rattle.file_extents.proofs.Chains.{fails_none, kept}
use Rattle.file_extents.proofs.filling.write_part.Goals as goal

pub returns-in-None-clause-keeps : goal.returns-in-None-clause-keeps
returns-in-None-clause-keeps g c = kept c.args.m.now (g.B.Bay.state c.args.bay.now) c.requires.takes

pub returns-in-None-clause-failed : goal.returns-in-None-clause-failed
returns-in-None-clause-failed g c = fails_none c.args.m.now c.args.filling.now.failed (g.B.Bay.state c.args.bay.now)
