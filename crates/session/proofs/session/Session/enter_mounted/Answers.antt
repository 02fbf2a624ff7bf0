use Rattle.std.proofs.Common.{ap}
use Rattle.session.specs.Sessions.{SessionView}
use Rattle.session.proofs.Grouped.{gone}
use Rattle.session.proofs.session.Session.enter_mounted.Goals as goal

pub add-requires-clause-absent : goal.add-requires-clause-absent
add-requires-clause-absent c = rw (ap (λ (s : SessionView). s.entries) c.gave_up_to.ensures.same, c.leave.ensures.left) (gone c.args.self.now.entries c.in-Ok.name)
