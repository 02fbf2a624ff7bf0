use Rattle.file_extents.proofs.Chains.{kept}
use Rattle.resync.proofs.Chains.{status_syncs}
use Rattle.resync.proofs.slice.come_online.Goals as goal

pub returns-in_default-clause-keeps : goal.returns-in_default-clause-keeps
returns-in_default-clause-keeps g c = kept c.args.m.now (g.B.Bay.state c.args.bay.now) c.requires.takes

pub returns-in-Ok-clause-keeps : goal.returns-in-Ok-clause-keeps
returns-in-Ok-clause-keeps g c = c.put_online.ensures.goes.keeps

pub returns-in-Err-clause-cause : goal.returns-in-Err-clause-cause
returns-in-Err-clause-cause g c =
    status_syncs c.args.m.now c.put_online.new.m c.args.disk (g.B.Bay.state c.args.bay.now) (g.B.Bay.state c.put_online.new.bay) c.in-Err.refusal c.in-Err.ensures.goes.cause
