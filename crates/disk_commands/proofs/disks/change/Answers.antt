use Rattle.std.proofs.Common.{refl}
use Rattle.session.proofs.Desks.{answered-carried}
use Rattle.disk_commands.proofs.disks.change.Goals as goal

pub returns : goal.returns
returns g c = record { answers = answered-carried c.args.text.now _ c.args.desk.now _ c.requires.unproved refl (λ is. refl) c.change_and_wait-reply.ensures.carries }
