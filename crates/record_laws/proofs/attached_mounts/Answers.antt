use Rattle.record_laws.proofs.Attaching.{attached_adds_slot, attached_mounts}
use Rattle.record_laws.proofs.attached_mounts.Goals as goal

pub returns : goal.returns
returns g c = record { mounts = attached_mounts (g.B.Bay.state c.args.bay.now); slots = attached_adds_slot }
