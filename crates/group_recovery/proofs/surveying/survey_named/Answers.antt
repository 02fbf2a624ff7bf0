use Rattle.std.proofs.Common.{◌∙◌, List, length, ap, subst, arith}
use Rattle.std.proofs.lemmas.Result.{IfOk-weaker}
use Rattle.bay.proofs.Calls.{on_more}
use Rattle.asm_formats.specs.Among.{IsAmong}
use Rattle.status_register.specs.declared.member.Member.{Member}
use Rattle.status_register.proofs.Taking.{kept_among}
use Rattle.status_register.proofs.Tallying.{RoseAt}
use Rattle.group_recovery.specs.Surveying.{AreSurveyed}
use Rattle.group_recovery.proofs.Choices.{members_attached, members_in, fewer_members}
use Rattle.group_recovery.proofs.Searches.{there_attached}
use Rattle.group_recovery.proofs.Surveyed.{survey_is}
use Rattle.group_recovery.proofs.surveying.survey_named.Goals as goal

pub survey_members-requires-clause-slots : goal.survey_members-requires-clause-slots
survey_members-requires-clause-slots g c = λ m among.
    let s = g.B.Bay.state c.args.bay.now in
    members_attached c.args.id c.args.named.now s (there_attached c.args.slots c.args.named.now s c.requires.there) m (subst (λ (l : List Member). IsAmong l m) (c.deref.ensures.value ∙ c.in_ok-members.ensures) among)

pub returns-clause-now : goal.returns-clause-now
returns-clause-now g c =
    let s = g.B.Bay.state c.args.bay.now in
    let t = g.B.Bay.state c.survey_members.new.bay in
    IfOk-weaker c.survey_members.result _ _
    (λ survey are. survey_is c.args.slots c.args.id c.args.named.now s t c.survey_members.ensures.runs c.survey_members.ensures.attached c.requires.there survey
    (subst (λ (l : List Member). AreSurveyed c.args.id l survey s t) (c.deref.ensures.value ∙ c.in_ok-members.ensures) are)) c.survey_members.ensures.surveyed

pub survey_members-requires-clause-few : goal.survey_members-requires-clause-few
survey_members-requires-clause-few g c = omega (arith, c.requires.few, ap length c.deref.ensures.value, ap length c.in_ok-members.ensures, fewer_members c.args.id c.args.named.now)

pub returns-clause-calls : goal.returns-clause-calls
returns-clause-calls g c = omega (arith, c.survey_members.ensures.calls, ap length c.deref.ensures.value, ap length c.in_ok-members.ensures, fewer_members c.args.id c.args.named.now)

pub returns-clause-runs : goal.returns-clause-runs
returns-clause-runs g c = on_more (λ slot of. members_in c.args.id c.args.named.now slot (of.0, subst (λ (l : List Member). IsAmong l of.0) (c.deref.ensures.value ∙ c.in_ok-members.ensures) of.1, of.2)) c.survey_members.ensures.runs

pub returns-clause-among : goal.returns-clause-among
returns-clause-among g c =
    let s = g.B.Bay.state c.args.bay.now in
    let t = g.B.Bay.state c.survey_members.new.bay in
    IfOk-weaker c.survey_members.result _ _
    (λ survey are. subst (λ (l : List Member). (m : Member) → IsAmong survey.members m → IsAmong l m) (c.deref.ensures.value ∙ c.in_ok-members.ensures)
    (kept_among (RoseAt s t) c.deref.result.now survey.members are.are)) c.survey_members.ensures.surveyed
