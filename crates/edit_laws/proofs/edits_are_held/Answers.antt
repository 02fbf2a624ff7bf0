use Rattle.edit_laws.proofs.Leading.{edit_is_held}
use Rattle.edit_laws.proofs.edits_are_held.Goals as goal

pub returns : goal.returns
returns g c = edit_is_held (g.B.Bay.state c.args.start.now) (g.B.Bay.state c.args.end.now)
