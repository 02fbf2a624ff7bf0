use Rattle.std.proofs.Common.{Err, sym, subst}
use Rattle.refusal_lines.specs.declared.refusal.Refusal.TheVariants as cause
use Rattle.group_engine.specs.Mounts.{MountedGroup}
use Rattle.group_engine.specs.Pending.{GoesOn}
use Rattle.group_engine.proofs.Endings.{keeps_closed}
use Rattle.group_engine.proofs.mounted.Mounted.end_disk.Goals as goal

pub returns : goal.returns
returns g c =
    let s = g.B.Bay.state c.args.bay.now in
    let t = g.B.Bay.state c.end_disk_record.new.bay in
    subst (λ (v : MountedGroup). GoesOn c.args.self.now (Err cause.NoMemory) v s t) (sym c.close.ensures)
    (record { keeps = keeps_closed c.end_disk_record.ensures.keeps; mounted = tt; cause = tt })
