use Rattle.std.proofs.Common.{List, sym, ap, subst, ◌∙◌}
use Rattle.std.specs.Prelude.{IsTrue}
use Rattle.asm_formats.specs.Following.{Holder, disks_of}
use Rattle.asm_formats.specs.Among.{IsAmong}
use Rattle.status_register.specs.Registered.{AreNumbered}
use Rattle.status_register.specs.Rows.{HaveOwnSlots}
use Rattle.status_register.specs.Surveys.{is_holder_there}
use Rattle.status_register.specs.Tallies.{HaveSlots}
use Rattle.status_register.specs.Writes.{first_register}
use Rattle.status_register.specs.declared.member.Member.{Member}
use Rattle.new_groups.proofs.DiskLists.{all_there, members_are_apart, members_numbered, members_slots}
use Rattle.new_groups.proofs.Works.{first_front, front_works, member_cause}
use Rattle.new_groups.proofs.forming.write_record.Goals as goal

pub first-requires-clause-status : goal.first-requires-clause-status
first-requires-clause-status g c = c.requires.agrees.status

pub first-requires-clause-slots : goal.first-requires-clause-slots
first-requires-clause-slots g c =
    subst (λ (l : List Member). HaveSlots (g.B.Bay.state c.args.bay.now) l) (sym (c.deref.ensures.value ∙ c.requires.lists.members)) (members_slots c.args.draft.now c.requires.agrees (g.B.Bay.state c.args.bay.now) c.requires.disks)

pub first-requires-clause-apart : goal.first-requires-clause-apart
first-requires-clause-apart g c = subst HaveOwnSlots (sym (c.deref.ensures.value ∙ c.requires.lists.members)) (members_are_apart c.args.draft.now c.requires.agrees)

pub first-requires-clause-numbers : goal.first-requires-clause-numbers
first-requires-clause-numbers g c = subst AreNumbered (sym (c.deref.ensures.value ∙ c.requires.lists.members)) (members_numbered c.args.draft.now c.requires.agrees)

pub first-requires-clause-holders : goal.first-requires-clause-holders
first-requires-clause-holders g c =
    subst (λ (l : List Member). (h : Holder) → IsAmong (disks_of c.args.draft.now.status.entries c.args.draft.now.status.holders) h → IsTrue (is_holder_there l h)) (sym (c.deref.ensures.value ∙ c.requires.lists.members))
    (all_there c.args.draft.now c.requires.agrees)

pub returns-in-Ok-clause-front : goal.returns-in-Ok-clause-front
returns-in-Ok-clause-front g c =
    first_front c.args.draft.now.disks.items _ _ (c.deref.ensures.value ∙ c.requires.lists.members)
    (subst AreNumbered (sym (c.deref.ensures.value ∙ c.requires.lists.members)) (members_numbered c.args.draft.now c.requires.agrees)) c.first.ensures.calls.runs

pub returns-in-Err-clause-front : goal.returns-in-Err-clause-front
returns-in-Err-clause-front g c =
    first_front c.args.draft.now.disks.items _ _ (c.deref.ensures.value ∙ c.requires.lists.members)
    (subst AreNumbered (sym (c.deref.ensures.value ∙ c.requires.lists.members)) (members_numbered c.args.draft.now c.requires.agrees)) c.first.ensures.calls.runs

pub returns-in-Ok-clause-works : goal.returns-in-Ok-clause-works
returns-in-Ok-clause-works g c =
    front_works c.args.draft.now.disks.items c.first.ensures.calls.attached
    (first_front c.args.draft.now.disks.items _ _ (c.deref.ensures.value ∙ c.requires.lists.members)
    (subst AreNumbered (sym (c.deref.ensures.value ∙ c.requires.lists.members)) (members_numbered c.args.draft.now c.requires.agrees)) c.first.ensures.calls.runs)

pub returns-in-Err-clause-works : goal.returns-in-Err-clause-works
returns-in-Err-clause-works g c =
    front_works c.args.draft.now.disks.items c.first.ensures.calls.attached
    (first_front c.args.draft.now.disks.items _ _ (c.deref.ensures.value ∙ c.requires.lists.members)
    (subst AreNumbered (sym (c.deref.ensures.value ∙ c.requires.lists.members)) (members_numbered c.args.draft.now c.requires.agrees)) c.first.ensures.calls.runs)

pub returns-in-Ok-clause-register : goal.returns-in-Ok-clause-register
returns-in-Ok-clause-register g c = c.in-Ok.ensures.register ∙ ap (first_register c.args.draft.now.status) (c.deref.ensures.value ∙ c.requires.lists.members)

pub returns-in-Err-clause-cause : goal.returns-in-Err-clause-cause
returns-in-Err-clause-cause g c = member_cause c.args.draft.now.disks.items _ (g.B.Bay.state c.args.bay.now) (g.B.Bay.state c.first.new.bay) (c.deref.ensures.value ∙ c.requires.lists.members) _ c.in-Err.ensures.cause
