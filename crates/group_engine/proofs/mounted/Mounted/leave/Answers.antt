use Rattle.group_engine.proofs.TakingOut.{leaves_shut}
use Rattle.group_engine.proofs.mounted.Mounted.leave.Goals as goal

pub returns-in-Err : goal.returns-in-Err
returns-in-Err g c =
    let one = leaves_shut c.args.self.now (g.B.Bay.state c.args.bay.now) c.args.disk c.in-Err.refusal c.requires.takes c.in-Err.ensures.cause in
    record { lets = one.lets; mounted = tt; gone = tt; cause = one.cause }

pub returns-in-Ok : goal.returns-in-Ok
returns-in-Ok g c = let one = c.take_out.ensures in record { lets = one.lets; mounted = one.mounted; gone = one.gone; cause = one.cause }
