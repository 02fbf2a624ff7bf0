use Rattle.file_extents.proofs.Chains.{kept}
use Rattle.group_contents.proofs.creating.create.Goals as goal

pub returns-in_default-clause-keeps : goal.returns-in_default-clause-keeps
returns-in_default-clause-keeps g c = kept c.args.m.now (g.B.Bay.state c.args.bay.now) c.requires.takes
