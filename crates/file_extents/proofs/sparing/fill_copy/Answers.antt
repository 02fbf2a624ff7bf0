use Rattle.file_extents.proofs.Chains.{fails_none, kept}
use Rattle.file_extents.proofs.sparing.fill_copy.Goals as goal

pub returns-in_default-clause-keeps : goal.returns-in_default-clause-keeps
returns-in_default-clause-keeps g c = kept c.args.m.now (g.B.Bay.state c.args.bay.now) c.requires.takes

pub returns-in_default-clause-failed : goal.returns-in_default-clause-failed
returns-in_default-clause-failed g c = fails_none c.args.m.now c.args.filled.failed (g.B.Bay.state c.args.bay.now)
