use Rattle.relocation.proofs.Chains.{goes_short, nothing_lets}
use Rattle.relocation.proofs.slicing.copy_with.Goals as goal

pub returns-in-Err : goal.returns-in-Err
returns-in-Err g c = goes_short (nothing_lets c.args.m.now (g.B.Bay.state c.args.bay.now) c.requires.takes)
