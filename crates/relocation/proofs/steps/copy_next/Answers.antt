use Rattle.resync.proofs.file_extents.Chains.{kept}
use Rattle.relocation.proofs.steps.copy_next.Goals as goal

pub returns-in-None-clause-keeps : goal.returns-in-None-clause-keeps
returns-in-None-clause-keeps g c = kept c.args.m.now (g.B.Bay.state c.args.bay.now) c.requires.takes
