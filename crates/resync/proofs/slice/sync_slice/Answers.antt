use Rattle.file_extents.proofs.Chains.{kept, shut_cause}
use Rattle.resync.proofs.Chains.{status_syncs}
use Rattle.resync.proofs.slice.sync_slice.Goals as goal

pub returns-in-Err-clause-keeps : goal.returns-in-Err-clause-keeps
returns-in-Err-clause-keeps g c = kept c.args.m.now (g.B.Bay.state c.args.bay.now) c.requires.takes

pub returns-in-Err-clause-cause : goal.returns-in-Err-clause-cause
returns-in-Err-clause-cause g c =
    let m = c.args.m.now in
    let s = g.B.Bay.state c.args.bay.now in
    status_syncs m m c.args.disk s s c.in-Err.refusal (shut_cause m s c.in-Err.refusal c.in-Err.ensures.cause)
