use Rattle.record_laws.proofs.Attaching.{mounted_is_kept}
use Rattle.record_laws.proofs.mounted_is_kept.Goals as goal

pub returns : goal.returns
returns g c = mounted_is_kept (g.B.Bay.state c.args.bay.now)
