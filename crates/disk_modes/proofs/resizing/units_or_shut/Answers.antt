use Rattle.std.proofs.Common.{Err, sym, subst}
use Rattle.refusal_lines.specs.declared.refusal.Refusal.TheVariants as cause
use Rattle.record_laws.specs.group_engine.Mounts.{MountedGroup}
use Rattle.record_laws.specs.group_engine.Pending.{GoesOn}
use Rattle.record_laws.proofs.group_engine.Endings.{keeps_closed}
use Rattle.disk_modes.specs.Stops.{StaysHeld}
use Rattle.disk_modes.proofs.Held.{held_closed}
use Rattle.disk_modes.proofs.resizing.units_or_shut.Goals as goal

pub returns-clause-goes : goal.returns-clause-goes
returns-clause-goes g c =
    let s = g.B.Bay.state c.args.bay.now in
    let t = g.B.Bay.state c.put_units.new.bay in
    subst (λ (v : MountedGroup). GoesOn c.args.m.now (Err cause.NoMemory) v s t) (sym c.close.ensures)
    (record { keeps = keeps_closed c.put_units.ensures.goes.keeps; mounted = tt; cause = tt })

pub returns-clause-held : goal.returns-clause-held
returns-clause-held g c = λ fit rules. subst (λ (v : MountedGroup). StaysHeld c.args.m.now v (g.B.Bay.state c.args.bay.now) (g.B.Bay.state c.put_units.new.bay)) (sym c.close.ensures) (held_closed (c.put_units.ensures.held fit rules))
