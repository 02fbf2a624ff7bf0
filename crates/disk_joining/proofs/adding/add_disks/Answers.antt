use Rattle.std.proofs.Common.{List, ℕ, map, sym, subst}
use Rattle.std.specs.String.{string_bytes}
use Rattle.disk_joining.specs.AddCauses.AddCause.{by_disks, by_step}
use Rattle.disk_joining.specs.Asking.{asked_disks, given_numbers}
use Rattle.disk_joining.specs.Joiners.{CanJoin}
use Rattle.disk_joining.specs.Taking.{IsApart, TakesIn}
use Rattle.disk_joining.proofs.Adds.{join_adds, joined_all, step_joins}
use Rattle.disk_joining.proofs.Onlines.{shut_cause}
use Rattle.disk_joining.proofs.Takings.{looks_taken, nothing_taken, taken_on, takes_then}
use Rattle.disk_joining.proofs.adding.add_disks.Goals as goal

pub returns-in-Err-clause-taken : goal.returns-in-Err-clause-taken
returns-in-Err-clause-taken g c = nothing_taken c.args.known.now.held.items c.args.m.now (g.B.Bay.state c.args.bay.now) c.requires.takes c.requires.apart

pub returns-in-Err-clause-cause : goal.returns-in-Err-clause-cause
returns-in-Err-clause-cause g c =
    let s = g.B.Bay.state c.args.bay.now in
    by_step (step_joins c.args.m.now c.args.m.now s s c.in-Err.refusal (shut_cause c.args.m.now c.args.m.now s s c.in-Err.refusal c.in-Err.ensures.cause))

pub prepare-requires-clause-whole : goal.prepare-requires-clause-whole
prepare-requires-clause-whole g c = (c.requires.takes c.in-Ok.ensures.ok).0

pub join-requires-clause-takes : goal.join-requires-clause-takes
join-requires-clause-takes g c = takes_then (looks_taken c.args.known.now.held.items c.args.m.now c.requires.takes c.requires.apart c.prepare.ensures.looks)

pub join-requires-clause-apart : goal.join-requires-clause-apart
join-requires-clause-apart g c = subst (λ (l : List ℕ). IsApart l c.args.m.now) (sym c.deref.ensures.value) c.requires.apart

pub join-requires-clause-may : goal.join-requires-clause-may
join-requires-clause-may g c =
    subst (λ (l : List ℕ). CanJoin l c.args.m.now c.in-Ok-prepare.joining (g.B.Bay.state c.prepare.new.bay)) (sym c.deref.ensures.value) c.in-Ok-prepare.ensures.may

pub returns-in-Ok-prepare-clause-taken : goal.returns-in-Ok-prepare-clause-taken
returns-in-Ok-prepare-clause-taken g c =
    taken_on c.args.known.now.held.items (looks_taken c.args.known.now.held.items c.args.m.now c.requires.takes c.requires.apart c.prepare.ensures.looks)
    (subst (λ (l : List ℕ). TakesIn l c.args.m.now c.join.new.m (g.B.Bay.state c.prepare.new.bay) (g.B.Bay.state c.join.new.bay)) c.deref.ensures.value c.join.ensures.joins.taken)

pub returns-in-Ok-prepare-clause-mounted : goal.returns-in-Ok-prepare-clause-mounted
returns-in-Ok-prepare-clause-mounted g c = c.join.ensures.joins.mounted

pub returns-in-Ok-prepare-clause-joined : goal.returns-in-Ok-prepare-clause-joined
returns-in-Ok-prepare-clause-joined g c =
    joined_all (asked_disks c.args.m.now c.args.groups.now) (given_numbers c.args.m.now c.args.groups.now) c.in-Ok-prepare.joining.disks.items c.join.new.m (g.B.Bay.state c.join.new.bay) c.join.result c.in-Ok-prepare.ensures.asked c.join.ensures.show c.join.ensures.entries

pub returns-in-Ok-prepare-clause-cause : goal.returns-in-Ok-prepare-clause-cause
returns-in-Ok-prepare-clause-cause g c =
    join_adds (map string_bytes c.args.paths.now) c.args.groups.now c.args.known.now c.args.m.now c.join.new.m (g.B.Bay.state c.join.new.bay) c.prepare.ensures.looks.runs c.in-Ok.ensures.ok c.join.result c.join.ensures.joins.cause

pub returns-in-Err-prepare-clause-taken : goal.returns-in-Err-prepare-clause-taken
returns-in-Err-prepare-clause-taken g c = looks_taken c.args.known.now.held.items c.args.m.now c.requires.takes c.requires.apart c.prepare.ensures.looks

pub returns-in-Err-prepare-clause-cause : goal.returns-in-Err-prepare-clause-cause
returns-in-Err-prepare-clause-cause g c = by_disks c.in-Err-prepare.ensures.refused
