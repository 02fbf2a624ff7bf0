use Rattle.std.proofs.Common.{ℕ, ◌∙◌, ap, subst, sym, IsTrue}
use Rattle.std.proofs.lemmas.Bool.{true≢false}
use Rattle.asm_formats.specs.Sets.{has_bit}
use Rattle.asm_formats.specs.Status.{Status, is_status}
use Rattle.record_laws.specs.group_engine.NextRecords.{KeepsDisks}
use Rattle.record_laws.proofs.group_engine.Endings.{goes_begin, goes_without}
use Rattle.record_laws.proofs.group_engine.NextRecords.{same_disks_are_next}
use Rattle.group_pieces.specs.Failing.{AreOffline}
use Rattle.group_pieces.specs.Failing.{FailsModes, FewerServe}
use Rattle.group_pieces.proofs.FewerServing.{nothing_costs, offline_costs}
use Rattle.group_pieces.proofs.Recording.{offline_none, offline_set, offline_without}
use Rattle.group_pieces.proofs.Several.{no_bit}
use Rattle.group_pieces.proofs.Steps.{on_ok}
use Rattle.group_pieces.proofs.failing.take_offline.Goals as goal

pub returns-then-bits-eq0-clause-goes : goal.returns-then-bits-eq0-clause-goes
returns-then-bits-eq0-clause-goes g c =
    let takes = c.requires.takes c.requires.mounted in
    goes_begin c.args.m.now (g.B.Bay.state c.args.bay.now) c.requires.mounted takes.0 takes.1

pub returns-then-bits-eq0-clause-offline : goal.returns-then-bits-eq0-clause-offline
returns-then-bits-eq0-clause-offline g c = λ e among small bit.
    absurd (true≢false (sym bit ∙ ap (λ (n : ℕ). has_bit n e.number) (sym c.bits.ensures.bits ∙ c.if-bits-eq0.true) ∙ no_bit e.number))

pub with_failed-requires : goal.with_failed-requires
with_failed-requires g c = subst (λ (r : Status). IsTrue (is_status r)) (sym c.status.ensures) (c.requires.takes c.requires.mounted).0.status

pub set_status-requires-clause-whole : goal.set_status-requires-clause-whole
set_status-requires-clause-whole g c = λ mounted. (c.requires.takes mounted).0

pub set_status-requires-clause-ready : goal.set_status-requires-clause-ready
set_status-requires-clause-ready g c = λ mounted. (c.requires.takes mounted).1

pub set_status-requires-clause-next : goal.set_status-requires-clause-next
set_status-requires-clause-next g c = λ mounted. same_disks_are_next c.args.m.now c.in-Ok.next (c.requires.takes mounted).0 c.in-Ok.ensures.status (subst (λ (r : Status). KeepsDisks r c.in-Ok.next) c.status.ensures c.in-Ok.ensures.disks)

pub returns-in-Err-clause-goes : goal.returns-in-Err-clause-goes
returns-in-Err-clause-goes g c =
    let takes = c.requires.takes c.requires.mounted in
    goes_without c.args.m.now (g.B.Bay.state c.args.bay.now) takes.0 takes.1

pub returns-in-Ok-clause-goes : goal.returns-in-Ok-clause-goes
returns-in-Ok-clause-goes g c = record { keeps = c.set_status.ensures.keeps; mounted = c.set_status.ensures.mounted; cause = c.set_status.ensures.cause }

pub returns-in-Ok-clause-offline : goal.returns-in-Ok-clause-offline
returns-in-Ok-clause-offline g c = on_ok c.set_status.result (λ is. subst (AreOffline c.args.failed c.args.since) (sym is) c.in-Ok.ensures.offline) c.set_status.ensures.recorded

pub returns-in-Ok-clause-still : goal.returns-in-Ok-clause-still
returns-in-Ok-clause-still g c = λ none. absurd (c.if-bits-eq0.false (c.bits.ensures.bits ∙ none))

pub returns-then-bits-eq0-clause-held : goal.returns-then-bits-eq0-clause-held
returns-then-bits-eq0-clause-held g c = offline_none c.args.m.now (g.B.Bay.state c.args.bay.now) c.args.failed

pub returns-in-Err-clause-held : goal.returns-in-Err-clause-held
returns-in-Err-clause-held g c = offline_without c.args.m.now (g.B.Bay.state c.args.bay.now) c.args.failed _

pub returns-in-Ok-clause-held : goal.returns-in-Ok-clause-held
returns-in-Ok-clause-held g c =
    offline_set c.args.m.now (g.B.Bay.state c.args.bay.now) c.args.failed c.in-Ok.next c.in-Ok.ensures.status
    (subst (λ (r : Status). FailsModes r c.args.failed c.in-Ok.next) c.status.ensures c.in-Ok.ensures.modes)
    c.set_status.new.self (g.B.Bay.state c.set_status.new.bay) c.set_status.result (c.set_status.ensures.moments c.requires.mounted) (c.set_status.ensures.done c.requires.mounted)

pub returns-then-bits-eq0-clause-turns : goal.returns-then-bits-eq0-clause-turns
returns-then-bits-eq0-clause-turns g c = nothing_costs c.args.m.now c.args.failed

pub returns-in-Ok-clause-turns : goal.returns-in-Ok-clause-turns
returns-in-Ok-clause-turns g c =
    offline_costs c.args.m.now c.args.failed c.in-Ok.next c.set_status.new.self c.set_status.result (λ none. c.if-bits-eq0.false (c.bits.ensures.bits ∙ none)) c.bits.ensures.small
    (subst (λ (r : Status). FewerServe r c.args.failed c.in-Ok.next) c.status.ensures c.in-Ok.ensures.fewer) c.set_status.ensures.recorded c.set_status.ensures.turns
