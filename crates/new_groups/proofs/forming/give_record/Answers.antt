use Rattle.std.proofs.Common.{◌≤◌, List, length, sym, subst, ◌∙◌}
use Rattle.std.proofs.lemmas.Result.{IfErr-weaker}
use Rattle.status_register.specs.Rows.{HaveOwnSlots}
use Rattle.status_register.specs.Tallies.{HaveSlots}
use Rattle.status_register.specs.declared.member.Member.{Member}
use Rattle.new_groups.proofs.Formed.{disks_stay}
use Rattle.new_groups.proofs.DiskLists.{holders_are_apart, holders_few, holders_slots}
use Rattle.new_groups.proofs.Works.{cause_before, claims_front, front_on, front_works, holder_cause, works_on}
use Rattle.new_groups.proofs.forming.give_record.Goals as goal

pub claim_first-requires-clause-slots : goal.claim_first-requires-clause-slots
claim_first-requires-clause-slots g c =
    subst (λ (l : List Member). HaveSlots (g.B.Bay.state c.args.bay.now) l) (sym (c.deref.ensures.value ∙ c.requires.lists.holders)) (holders_slots c.args.draft.now c.requires.agrees (g.B.Bay.state c.args.bay.now) c.requires.disks)

pub claim_first-requires-clause-few : goal.claim_first-requires-clause-few
claim_first-requires-clause-few g c = subst (λ (l : List Member). length l ≤ 512) (sym (c.deref.ensures.value ∙ c.requires.lists.holders)) (holders_few c.args.draft.now c.requires.agrees)

pub claim_first-requires-clause-apart : goal.claim_first-requires-clause-apart
claim_first-requires-clause-apart g c = subst HaveOwnSlots (sym (c.deref.ensures.value ∙ c.requires.lists.holders)) (holders_are_apart c.args.draft.now c.requires.agrees)

pub write_record-requires-clause-disks : goal.write_record-requires-clause-disks
write_record-requires-clause-disks g c = disks_stay c.args.draft.now.disks.items c.claim_first.ensures.calls.attached c.requires.disks

pub returns-in-Ok-clause-front : goal.returns-in-Ok-clause-front
returns-in-Ok-clause-front g c =
    front_on c.args.draft.now.disks.items (claims_front _ c.args.draft.now.status.holders c.args.draft.now.disks.items _ _ (c.deref.ensures.value ∙ c.requires.lists.holders) c.claim_first.ensures.calls.runs) c.write_record.ensures.front

pub returns-in-Err-clause-front : goal.returns-in-Err-clause-front
returns-in-Err-clause-front g c =
    claims_front _ c.args.draft.now.status.holders c.args.draft.now.disks.items _ _ (c.deref.ensures.value ∙ c.requires.lists.holders) c.claim_first.ensures.calls.runs

pub returns-in-Ok-clause-works : goal.returns-in-Ok-clause-works
returns-in-Ok-clause-works g c =
    works_on (front_works c.args.draft.now.disks.items c.claim_first.ensures.calls.attached
    (claims_front _ c.args.draft.now.status.holders c.args.draft.now.disks.items _ _ (c.deref.ensures.value ∙ c.requires.lists.holders) c.claim_first.ensures.calls.runs)) c.write_record.ensures.works

pub returns-in-Err-clause-works : goal.returns-in-Err-clause-works
returns-in-Err-clause-works g c =
    front_works c.args.draft.now.disks.items c.claim_first.ensures.calls.attached
    (claims_front _ c.args.draft.now.status.holders c.args.draft.now.disks.items _ _ (c.deref.ensures.value ∙ c.requires.lists.holders) c.claim_first.ensures.calls.runs)

pub returns-in-Ok-clause-cause : goal.returns-in-Ok-clause-cause
returns-in-Ok-clause-cause g c = IfErr-weaker c.write_record.result _ _ (λ e is. cause_before c.args.draft.now.disks.items (g.B.Bay.state c.write_record.new.bay) c.claim_first.ensures.calls.runs e is) c.write_record.ensures.cause

pub returns-in-Err-clause-cause : goal.returns-in-Err-clause-cause
returns-in-Err-clause-cause g c = holder_cause c.args.draft.now.status.holders c.args.draft.now.disks.items _ (g.B.Bay.state c.args.bay.now) (g.B.Bay.state c.claim_first.new.bay) (c.deref.ensures.value ∙ c.requires.lists.holders) _ c.in-Err.ensures.cause
