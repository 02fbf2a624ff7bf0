use Rattle.relocation.proofs.Chains.{ends_done}
use Rattle.relocation.proofs.ending.empty_out.Goals as goal

pub returns-in_default-clause-ends : goal.returns-in_default-clause-ends
returns-in_default-clause-ends g c = ends_done c.args.m.now (g.B.Bay.state c.args.bay.now) c.requires.mounted c.requires.takes
