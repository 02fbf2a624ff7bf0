use Rattle.std.proofs.Common.{◌∙◌, sym, subst, None}
use Rattle.resync.specs.group_engine.Mounts.{MountedGroup}
use Rattle.relocation.specs.Shortfalls.{EndCause, OnEnd}
use Rattle.relocation.proofs.Chains.{flight_lets, flight_mounted, nothing_lets}
use Rattle.relocation.proofs.asking.ask.Goals as goal

pub going_on-requires : goal.going_on-requires
going_on-requires g c = record { shape = (c.requires.takes c.requires.mounted).0.shape }

pub returns-in-Some-clause-lets : goal.returns-in-Some-clause-lets
returns-in-Some-clause-lets g c = nothing_lets c.args.m.now (g.B.Bay.state c.args.bay.now) c.requires.takes

pub next_asked-requires : goal.next_asked-requires
next_asked-requires g c =
    let lets = flight_lets c.args.m.now c.set_flight.new.self None c.set_flight.ensures (g.B.Bay.state c.args.bay.now) c.requires.takes in
    record { whole = lets.whole (flight_mounted c.args.m.now c.set_flight.new.self None c.set_flight.ensures c.requires.mounted) }

pub returns-in-None-clause-lets : goal.returns-in-None-clause-lets
returns-in-None-clause-lets g c = flight_lets c.args.m.now c.next_asked.new.m None (c.next_asked.ensures.same ∙ c.set_flight.ensures) (g.B.Bay.state c.args.bay.now) c.requires.takes

pub returns-in-None-clause-mounted : goal.returns-in-None-clause-mounted
returns-in-None-clause-mounted g c = flight_mounted c.args.m.now c.next_asked.new.m None (c.next_asked.ensures.same ∙ c.set_flight.ensures) c.requires.mounted

pub returns-in-None-clause-end : goal.returns-in-None-clause-end
returns-in-None-clause-end g c = subst (λ (v : MountedGroup). OnEnd c.next_asked.result (EndCause v)) (sym c.next_asked.ensures.same) c.next_asked.ensures.end
