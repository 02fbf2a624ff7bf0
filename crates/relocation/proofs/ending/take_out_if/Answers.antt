use Rattle.relocation.proofs.Chains.{ends_done}
use Rattle.relocation.proofs.ending.take_out_if.Goals as goal

pub returns-then-not-is_to_leave : goal.returns-then-not-is_to_leave
returns-then-not-is_to_leave g c = ends_done c.args.m.now (g.B.Bay.state c.args.bay.now) c.requires.mounted c.requires.takes
