use Rattle.std.proofs.Common.{◌≡◌, ◌∙◌, Ok, Err, IsTrue, false, sym, ap, subst, List, Option}
use Rattle.bay.specs.State.{BayState}
use Rattle.asm_formats.specs.Status.{Status, is_status, status_spelling}
use Rattle.status_register.specs.Holders.{HoldSlots, attached_to, next_turn, with_next_number}
use Rattle.status_register.specs.Keeping.{KeepsOn}
use Rattle.status_register.specs.Reaching.{Reaches}
use Rattle.status_register.specs.Registered.{Registered}
use Rattle.status_register.specs.Slots.{status_gate}
use Rattle.status_register.specs.Writes.{after_write}
use Rattle.status_register.specs.declared.member.Member.{Member}
use Rattle.status_register.proofs.Answered.{show_but}
use Rattle.status_register.proofs.Holding.{are_holders}
use Rattle.status_register.proofs.Losing.{failed_alone}
use Rattle.status_register.proofs.Ordering.{row_runs}
use Rattle.status_register.proofs.Reaching.{written_reaches}
use Rattle.status_register.proofs.Rewriting.{IsRewritten, rewritten}
use Rattle.status_register.proofs.Written.{written}
use Rattle.status_register.proofs.register.Register.write.Given.{Over}
use Rattle.status_register.proofs.register.Register.write.Goals.{After-renumbered-status}
use Rattle.status_register.proofs.register.Register.write.Goals as goal

-- ---- the record under its number

turn_is : (g : Over) (c : After-renumbered-status g) → c.saturating_add-turn.result ≡ next_turn c.args.self.now.turn
turn_is g c = c.saturating_add-turn.ensures ∙ ap (λ (r : Registered). next_turn r.turn) c.self.view_is

status_is : (g : Over) (c : After-renumbered-status g) → c.renumbered-status.result ≡ with_next_number c.args.self.now c.args.next.now
status_is g c = c.renumbered-status.ensures.value ∙ (λ i. record c.args.next.now { epoch = (c.self.view_is i).epoch; turn = turn_is g c i })

allowed : (g : Over) (c : After-renumbered-status g) → IsTrue (is_status (with_next_number c.args.self.now c.args.next.now))
allowed g c = subst (λ (r : Status). IsTrue (is_status r)) (status_is g c) (c.renumbered-status.ensures.kept c.requires.status)

given : (g : Over) (c : After-renumbered-status g) (t : BayState)
    → IsRewritten (g.B.Bay.state c.args.bay.now) t c.args.self.now c.args.next.now c.renumbered-status.result c.self.inside.members c.self.inside.id
given g c t = rewritten (g.B.Bay.state c.args.bay.now) t c.args.self.now c.args.next.now c.renumbered-status.result c.self.inside.members c.self.inside.id
    (ap (λ (r : Registered). r.members) c.self.view_is) (status_is g c) (ap (λ (r : Registered). r.id) c.self.view_is)

-- ---- the answers

pub write_record-requires-clause-slots : goal.write_record-requires-clause-slots
write_record-requires-clause-slots g c = subst (λ (l : List (Option Member)). HoldSlots (g.B.Bay.state c.args.bay.now) l) (sym (ap (λ (r : Registered). r.members) c.self.view_is)) c.requires.slots

pub write_record-requires-clause-majority : goal.write_record-requires-clause-majority
write_record-requires-clause-majority g c =
    (given g (goal.at.write_record-requires-clause-majority g c).After-renumbered-status (g.B.Bay.state c.args.bay.now)).majority c.requires.majority

pub returns-in-Err : goal.returns-in-Err
returns-in-Err g c =
    let s = g.B.Bay.state c.args.bay.now in
    let t = g.B.Bay.state c.write_record.new.bay in
    let old = c.args.self.now in
    let next = c.args.next.now in
    let place = (goal.at.returns-in-Err g c).After-renumbered-status in
    let said = given g place t in
    let calls = said.calls c.write_record.ensures.calls in
    let answer = said.answer (Err c.in-Err.dead) c.in-Err.ensures.answer in
    let run = row_runs (status_gate old.id) (attached_to old.members next) (status_spelling (with_next_number old next)) s t calls.runs in
    let made : Registered = record { id = c.self.inside.id; members = c.self.inside.members; value = c.self.inside.value; epoch = c.self.inside.epoch; turn = c.saturating_add-turn.result; is_fresh = c.self.inside.is_fresh } in
    let made_is : made ≡ after_write old next (Err c.in-Err.dead) = λ i. record (c.self.view_is i) { turn = turn_is g place i } in
    record {
      answer = answer;
      shown = tt;
      failed = tt;
      register = made_is;
      allowed = allowed g place;
      reaches = tt;
      calls = calls;
      history = λ slots completed begun room keeps. subst (λ (r : Registered). KeepsOn old next (Err c.in-Err.dead) r s t slots completed begun) (sym made_is)
          (written s t (g.met.B.Bay.sound c.args.bay.now) old next (allowed g place) c.requires.group c.requires.follows c.requires.fresh c.requires.slots run slots completed begun room keeps (Err c.in-Err.dead) answer);
    }

pub returns-in-Ok : goal.returns-in-Ok
returns-in-Ok g c =
    let s = g.B.Bay.state c.args.bay.now in
    let t = g.B.Bay.state c.write_record.new.bay in
    let old = c.args.self.now in
    let next = c.args.next.now in
    let ms = attached_to old.members next in
    let place = (goal.at.returns-in-Ok g c).After-renumbered-status in
    let said = given g place t in
    let calls = said.calls c.write_record.ensures.calls in
    let answer = said.answer (Ok c.in-Ok.failed) c.in-Ok.ensures.answer in
    let run = row_runs (status_gate old.id) ms (status_spelling (with_next_number old next)) s t calls.runs in
    let made : Registered = record { id = c.self.inside.id; members = c.self.inside.members; value = c.renumbered-status.result; epoch = c.self.inside.epoch; turn = c.saturating_add-turn.result; is_fresh = false } in
    let made_is : made ≡ after_write old next (Ok c.in-Ok.failed) = λ i. record (c.self.view_is i) { value = status_is g place i; turn = turn_is g place i; is_fresh = false } in
    record {
      answer = answer;
      shown = show_but s t (with_next_number old next) ms answer.0 c.in-Ok.failed (λ m h. (are_holders old.members next m h).0) answer.2 answer.3.1;
      failed = failed_alone s t ms answer.0 c.in-Ok.failed answer.1 answer.3.1;
      register = made_is;
      allowed = allowed g place;
      reaches = subst (λ (r : Registered). Reaches r.members r.value) (sym made_is) (written_reaches old next c.requires.majority);
      calls = calls;
      history = λ slots completed begun room keeps. subst (λ (r : Registered). KeepsOn old next (Ok c.in-Ok.failed) r s t slots completed begun) (sym made_is)
          (written s t (g.met.B.Bay.sound c.args.bay.now) old next (allowed g place) c.requires.group c.requires.follows c.requires.fresh c.requires.slots run slots completed begun room keeps (Ok c.in-Ok.failed) answer);
    }
