use Rattle.std.proofs.Common.{◌≡◌, List, length, Result, IfOk, IfErr, sym, subst, ap, arith}
use Rattle.bay.proofs.Calls.{goes_on, stops, on_more}
use Rattle.bay.proofs.Images.{same-trans}
use Rattle.asm_formats.specs.Among.{IsAmong}
use Rattle.status_register.specs.Answers.{Surveyed, IsSurveyed}
use Rattle.status_register.specs.declared.member.Member.{Member}
use Rattle.status_register.proofs.Filling.{still_slots}
use Rattle.status_register.proofs.Taking.{kept_among, kept_few}
use Rattle.status_register.proofs.Tallying.{RoseAt}
use Rattle.group_recovery.specs.Surveying.{AreSurveyed, MembersCause}
use Rattle.group_recovery.specs.Syncing.{AreMembersDurable}
use Rattle.group_recovery.specs.declared.error.MountError.{MountError}
use Rattle.group_recovery.proofs.Surveyed.{answer_surveyed, answer_cause}
use Rattle.group_recovery.proofs.surveying.survey_members.Goals as goal

pub survey_synced-answer-requires-clause-slots : goal.survey_synced-answer-requires-clause-slots
survey_synced-answer-requires-clause-slots g c = λ m among.
    let s = g.B.Bay.state c.args.bay.now in
    let t = g.B.Bay.state c.sync_all.new.bay in
    still_slots (c.requires.slots m (kept_among (RoseAt s t) c.args.members.now c.in_ok-synced.synced.items c.in_ok-synced.ensures.synced.are m (subst (λ (l : List Member). IsAmong l m) c.deref.ensures.value among))) c.sync_all.ensures.attached

pub survey_synced-answer-requires-clause-few : goal.survey_synced-answer-requires-clause-few
survey_synced-answer-requires-clause-few g c =
    omega (arith, c.requires.few, ap length c.deref.ensures.value, kept_few (RoseAt (g.B.Bay.state c.args.bay.now) (g.B.Bay.state c.sync_all.new.bay)) c.args.members.now c.in_ok-synced.synced.items c.in_ok-synced.ensures.synced.are)

pub returns-clause-surveyed : goal.returns-clause-surveyed
returns-clause-surveyed g c =
    let s = g.B.Bay.state c.args.bay.now in
    let m = g.B.Bay.state c.sync_all.new.bay in
    let t = g.B.Bay.state c.survey_synced-answer.new.bay in
    let synced = c.in_ok-synced.synced.items in
    let answer = c.survey_synced-answer.result in
    subst (λ (a : Result Surveyed MountError). IfOk a (λ survey. AreSurveyed c.args.id c.args.members.now survey s t)) (sym c.answer_of.ensures)
    (answer_surveyed s m t c.sync_all.ensures.runs c.survey_synced-answer.ensures.runs c.args.id c.args.members.now synced c.in_ok-synced.ensures.synced answer
    (subst (λ (l : List Member). IsSurveyed c.args.id l answer m t) c.deref.ensures.value c.survey_synced-answer.ensures.answer)
    (subst (λ (l : List Member). IfOk answer (λ survey. (survey.id ≡ c.args.id) × (survey.members ≡ l))) c.deref.ensures.value c.survey_synced-answer.ensures.surveyed)
    c.survey_synced-answer.ensures.now (subst (λ (l : List Member). AreMembersDurable l t) c.deref.ensures.value c.survey_synced-answer.ensures.durable) c.survey_synced-answer.ensures.record_is)

pub returns-clause-cause : goal.returns-clause-cause
returns-clause-cause g c =
    let s = g.B.Bay.state c.args.bay.now in
    let m = g.B.Bay.state c.sync_all.new.bay in
    let t = g.B.Bay.state c.survey_synced-answer.new.bay in
    let synced = c.in_ok-synced.synced.items in
    let answer = c.survey_synced-answer.result in
    subst (λ (a : Result Surveyed MountError). IfErr a (λ e. MembersCause c.args.id c.args.members.now e s t)) (sym c.answer_of.ensures)
    (answer_cause s m t c.sync_all.ensures.runs c.survey_synced-answer.ensures.runs c.args.id c.args.members.now synced c.in_ok-synced.ensures.synced answer
    (subst (λ (l : List Member). IsSurveyed c.args.id l answer m t) c.deref.ensures.value c.survey_synced-answer.ensures.answer))

pub returns-clause-calls : goal.returns-clause-calls
returns-clause-calls g c =
    omega (arith, c.sync_all.ensures.calls, c.survey_synced-answer.ensures.calls, ap length c.deref.ensures.value, kept_few (RoseAt (g.B.Bay.state c.args.bay.now) (g.B.Bay.state c.sync_all.new.bay)) c.args.members.now c.in_ok-synced.synced.items c.in_ok-synced.ensures.synced.are)

pub returns-clause-runs : goal.returns-clause-runs
returns-clause-runs g c =
    let s = g.B.Bay.state c.args.bay.now in
    let m = g.B.Bay.state c.sync_all.new.bay in
    goes_on same-trans c.sync_all.ensures.runs (stops c.sync_all.ensures.runs)
    (on_more (λ slot of. (of.0, kept_among (RoseAt s m) c.args.members.now c.in_ok-synced.synced.items c.in_ok-synced.ensures.synced.are of.0 (subst (λ (l : List Member). IsAmong l of.0) c.deref.ensures.value of.1), of.2)) c.survey_synced-answer.ensures.runs)
