use Rattle.std.proofs.Common.{Err, sym, subst}
use Rattle.refusal_lines.specs.declared.refusal.Refusal.TheVariants as cause
use Rattle.record_laws.specs.group_engine.Mounts.{MountedGroup}
use Rattle.record_laws.specs.group_engine.Pending.{GoesOn}
use Rattle.record_laws.proofs.group_engine.Endings.{keeps_closed}
use Rattle.disk_modes.specs.Stops.{CommitsRebalance}
use Rattle.disk_modes.proofs.Held.{held_closed}
use Rattle.disk_modes.proofs.changing.rebalance_or_shut.Goals as goal

pub returns-clause-goes : goal.returns-clause-goes
returns-clause-goes g c =
    let s = g.B.Bay.state c.args.bay.now in
    let t = g.B.Bay.state c.put_rebalance.new.bay in
    subst (λ (v : MountedGroup). GoesOn c.args.m.now (Err cause.NoMemory) v s t) (sym c.close.ensures)
    (record { keeps = keeps_closed c.put_rebalance.ensures.goes.keeps; mounted = tt; cause = tt })

pub returns-clause-commits : goal.returns-clause-commits
returns-clause-commits g c =
    let one = c.put_rebalance.ensures.commits in
    subst (λ (v : MountedGroup). CommitsRebalance c.args.m.now (Err cause.NoMemory) v (g.B.Bay.state c.args.bay.now) (g.B.Bay.state c.put_rebalance.new.bay)) (sym c.close.ensures)
    (record { held = held_closed one.held; turns = one.turns; rules = tt })
