use Rattle.std.proofs.Common.{sym, subst, Err, Result}
use Rattle.std.specs.Prelude.{OnOk}
use Rattle.refusal_lines.specs.declared.refusal.Refusal.{Refusal}
use Rattle.file_extents.specs.Closing.{or_shut}
use Rattle.file_extents.specs.group_engine.Mounts.{MountedGroup}
use Rattle.disk_joining.specs.Joiners.{AreEntered, JoinStep, ShowHeaders}
use Rattle.disk_joining.proofs.Adds.{goes_may, joins_goes, joins_on, joins_shut, shut_entries}
use Rattle.disk_joining.proofs.Takings.{goes_takes, keeps_taken, nothing_taken}
use Rattle.disk_joining.proofs.adding.join_all.Goals as goal

pub join_born-answer-requires-clause-mounted : goal.join_born-answer-requires-clause-mounted
join_born-answer-requires-clause-mounted g c = c.in-Ok.ensures.goes.mounted

pub join_born-answer-requires-clause-takes : goal.join_born-answer-requires-clause-takes
join_born-answer-requires-clause-takes g c = goes_takes c.give_births.ensures.goes

pub join_born-answer-requires-clause-apart : goal.join_born-answer-requires-clause-apart
join_born-answer-requires-clause-apart g c = (keeps_taken c.args.held.now c.requires.apart c.give_births.ensures.goes.keeps).own

pub join_born-answer-requires-clause-may : goal.join_born-answer-requires-clause-may
join_born-answer-requires-clause-may g c = goes_may c.args.held.now c.args.joining.now c.give_births.ensures.goes c.give_births.ensures.tables c.requires.may

pub returns-in-Ok-clause-joins : goal.returns-in-Ok-clause-joins
returns-in-Ok-clause-joins g c =
    let s = g.B.Bay.state c.args.bay.now in
    let t = g.B.Bay.state c.join_born-answer.new.bay in
    let joins = joins_on c.args.held.now c.join_born-answer.result (keeps_taken c.args.held.now c.requires.apart c.give_births.ensures.goes.keeps) c.in-Ok.ensures.goes.mounted c.join_born-answer.ensures.joins in
    subst (λ (n : MountedGroup). JoinStep c.args.held.now c.args.m.now c.or_shut.result n s t) (sym c.or_shut.ensures.1)
    (subst (λ (r : Result (Unit {0}) Refusal). JoinStep c.args.held.now c.args.m.now r (or_shut c.join_born-answer.result c.join_born-answer.new.m) s t) (sym c.or_shut.ensures.0)
    (joins_shut c.args.held.now c.join_born-answer.result joins))

pub returns-in-Ok-clause-entries : goal.returns-in-Ok-clause-entries
returns-in-Ok-clause-entries g c =
    let hs = c.args.joining.now.disks.items in
    subst (λ (n : MountedGroup). OnOk c.or_shut.result (AreEntered n.register.value hs)) (sym c.or_shut.ensures.1)
    (subst (λ (r : Result (Unit {0}) Refusal). OnOk r (AreEntered (or_shut c.join_born-answer.result c.join_born-answer.new.m).register.value hs)) (sym c.or_shut.ensures.0)
    (shut_entries hs c.join_born-answer.result c.join_born-answer.new.m c.join_born-answer.ensures.entries))

pub returns-in-Err-clause-joins : goal.returns-in-Err-clause-joins
returns-in-Err-clause-joins g c =
    joins_goes c.args.held.now (Err c.in-Err.refusal) (nothing_taken c.args.held.now c.args.m.now (g.B.Bay.state c.args.bay.now) c.requires.takes c.requires.apart) c.requires.mounted c.in-Err.ensures.goes

pub returns-in-Ok-clause-show : goal.returns-in-Ok-clause-show
returns-in-Ok-clause-show g c =
    subst (λ (r : Result (Unit {0}) Refusal). OnOk r (ShowHeaders c.args.joining.now.disks.items (g.B.Bay.state c.join_born-answer.new.bay))) (sym c.or_shut.ensures.0) c.join_born-answer.ensures.show
