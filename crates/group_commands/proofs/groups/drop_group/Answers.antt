use Rattle.std.proofs.Common.{refl}
use Rattle.session.proofs.Desks.{answered-carried, answered-only}
use Rattle.session.proofs.Ready.{left_ready}
use Rattle.group_commands.proofs.groups.drop_group.Goals as goal

pub returns-in-Ok : goal.returns-in-Ok
returns-in-Ok g c = record {
  answers = answered-only c.args.text.now _ c.args.desk.now _ (rw c.requires.asked refl) refl (λ is. refl)
      (rw c.leave.ensures.groups (left_ready c.work.new.self.entries c.work.new.self.groups c.args.name c.work.ensures.carries.ready)) c.work.ensures.carries.calls c.work.ensures.carries.past;
}

pub returns : goal.returns
returns g c = record { answers = answered-carried c.args.text.now _ c.args.desk.now _ (rw c.requires.asked refl) refl (λ is. refl) c.work.ensures.carries }
