use Rattle.std.proofs.Common.{refl}
use Rattle.session.proofs.Desks.{answered-carried}
use Rattle.disk_commands.proofs.disks.add_disks.Goals as goal

pub returns : goal.returns
returns g c = record { answers = answered-carried c.args.text.now _ c.args.desk.now _ (rw c.requires.asked refl) refl (λ is. refl) c.add_and_wait-reply.ensures.carries }
