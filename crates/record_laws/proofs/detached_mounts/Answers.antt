use Rattle.record_laws.proofs.Attaching.{detached_adds_none, detached_mounts}
use Rattle.record_laws.proofs.detached_mounts.Goals as goal

pub returns : goal.returns
returns g c = record { mounts = detached_mounts (g.B.Bay.state c.args.bay.now); slots = detached_adds_none }
