use Rattle.relocation.proofs.Chains.{nothing_lets, shut_slices}
use Rattle.relocation.proofs.slicing.run_to_end.Goals as goal

pub returns-in-Err-clause-lets : goal.returns-in-Err-clause-lets
returns-in-Err-clause-lets g c = nothing_lets c.args.m.now (g.B.Bay.state c.args.bay.now) c.requires.takes

pub returns-in-Err-clause-cause : goal.returns-in-Err-clause-cause
returns-in-Err-clause-cause g c = shut_slices c.args.m.now (g.B.Bay.state c.args.bay.now) c.in-Err.refusal c.in-Err.ensures.cause
