use Rattle.std.proofs.Common.{◌∙◌, ◌++◌, List, length, ap, refl, subst, arith, IfOk}
use Rattle.bay.proofs.Calls.{on_more}
use Rattle.asm_formats.specs.Among.{IsAmong}
use Rattle.status_register.specs.Answers.{IsSurveyed}
use Rattle.status_register.specs.Surveys.{AreRead}
use Rattle.status_register.specs.declared.member.Member.{Member}
use Rattle.status_register.proofs.Tallying.{RoseAt}
use Rattle.group_recovery.specs.Verdicts.{members_with, unread_by}
use Rattle.group_recovery.proofs.Choices.{members_attached, members_in, fewer_members}
use Rattle.group_recovery.proofs.choosing.judge.Goals as goal

pub read-answer-requires-clause-slots : goal.read-answer-requires-clause-slots
read-answer-requires-clause-slots g c = λ m among.
    members_attached c.args.id c.args.headed.now (g.B.Bay.state c.args.bay.now) c.requires.attached m (subst (λ (l : List Member). IsAmong l m) (c.deref.ensures.value ∙ c.in_ok-members.ensures) among)

pub read-answer-requires-clause-few : goal.read-answer-requires-clause-few
read-answer-requires-clause-few g c = omega (arith, c.requires.few, ap length c.deref.ensures.value, ap length c.in_ok-members.ensures, fewer_members c.args.id c.args.headed.now)

pub returns-clause-calls : goal.returns-clause-calls
returns-clause-calls g c = omega (arith, c.read-answer.ensures.calls.calls, ap length c.deref.ensures.value, ap length c.in_ok-members.ensures)

pub returns-clause-judged : goal.returns-clause-judged
returns-clause-judged g c =
    let s = g.B.Bay.state c.args.bay.now in
    let t = g.B.Bay.state c.read-answer.new.bay in
    let ms = c.deref.ensures.value ∙ c.in_ok-members.ensures in (
      unread_by (members_with c.args.id c.args.headed.now) c.read-answer.result,
      c.in_ok-note_unread.ensures ∙ ap (λ (l : List Member). c.args.unread.now.items ++ unread_by l c.read-answer.result) (c.deref-2.ensures.value ∙ c.in_ok-members.ensures),
      record {
        answer = c.read-answer.result;
        surveyed = subst (λ (l : List Member). IsSurveyed c.args.id l c.read-answer.result s t) ms c.read-answer.ensures.answer;
        read = subst (λ (l : List Member). IfOk c.read-answer.result (λ survey. AreRead (RoseAt s t) l survey.read)) ms c.read-answer.ensures.seen;
        verdict_is = c.verdict_of.ensures;
        unread_are = refl;
      },
    )

pub returns-clause-runs : goal.returns-clause-runs
returns-clause-runs g c = on_more (λ slot of. members_in c.args.id c.args.headed.now slot (of.0, subst (λ (l : List Member). IsAmong l of.0) (c.deref.ensures.value ∙ c.in_ok-members.ensures) of.1, of.2)) c.read-answer.ensures.calls.runs

pub returns-in_err-note_unread-clause-runs : goal.returns-in_err-note_unread-clause-runs
returns-in_err-note_unread-clause-runs g c =
    on_more (λ slot of. members_in c.args.id c.args.headed.now slot (of.0, subst (λ (l : List Member). IsAmong l of.0) (c.deref.ensures.value ∙ c.in_ok-members.ensures) of.1, of.2)) c.read-answer.ensures.calls.runs
