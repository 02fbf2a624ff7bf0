use Rattle.std.proofs.Common.{Err, sym, subst}
use Rattle.refusal_lines.specs.declared.refusal.Refusal.TheVariants as cause
use Rattle.group_engine.specs.Mounts.{IsMounted, MountedGroup}
use Rattle.group_engine.specs.Pending.{EndsOn}
use Rattle.group_engine.proofs.Endings.{closed_takes_none, ends_closed}
use Rattle.group_engine.proofs.mounted.Mounted.end_or_close.Goals as goal

pub returns : goal.returns
returns g c =
    let s = g.B.Bay.state c.args.bay.now in
    let t = g.B.Bay.state c.end_operation.new.bay in
    record {
      ends = subst (λ (v : MountedGroup). EndsOn c.args.self.now (Err cause.NoMemory) v s t) (sym c.close.ensures) (ends_closed c.end_operation.result c.end_operation.ensures.ends);
      ended = tt;
      closed = subst (λ (v : MountedGroup). IsMounted v → ⊥) (sym c.close.ensures) (closed_takes_none c.end_operation.new.self);
    }
