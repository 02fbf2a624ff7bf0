use Rattle.std.proofs.Common.{refl}
use Rattle.group_engine.proofs.Copied.{copied_not, shut_copy}
use Rattle.group_engine.proofs.mounted.Mounted.copy_directory.Goals as goal

pub returns-in-Ok : goal.returns-in-Ok
returns-in-Ok g c = c.copy_mounted.ensures

pub returns-in-Err : goal.returns-in-Err
returns-in-Err g c =
    let m = c.args.self.now in
    let s = g.B.Bay.state c.args.bay.now in
    copied_not m s c.args.to c.in-Err.refusal c.requires.takes (shut_copy m s c.args.to c.in-Err.refusal m.access refl c.in-Err.ensures.cause)
