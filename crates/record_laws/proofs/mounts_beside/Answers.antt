use Rattle.record_laws.proofs.Beside.{mounts_beside, no_entry_is_no_holder}
use Rattle.record_laws.proofs.mounts_beside.Goals as goal

pub returns : goal.returns
returns g c = record { mounts = mounts_beside _ _ (g.B.Bay.state c.args.start.now) (g.B.Bay.state c.args.end.now); no_entry = no_entry_is_no_holder }
