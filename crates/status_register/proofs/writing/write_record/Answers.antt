use Rattle.std.proofs.Common.{◌∙◌, List, sym, subst}
use Rattle.status_register.specs.Holders.{AreHolders}
use Rattle.status_register.specs.Rows.{HaveOwnSlots}
use Rattle.status_register.specs.Tallies.{HaveSlots}
use Rattle.status_register.specs.declared.member.Member.{Member}
use Rattle.status_register.proofs.Holding.{are_holders, have_slots, holders_apart}
use Rattle.status_register.proofs.writing.write_record.Goals as goal

pub write_on_majorities-requires-clause-slots : goal.write_on_majorities-requires-clause-slots
write_on_majorities-requires-clause-slots g c = subst (λ (l : List Member). HaveSlots (g.B.Bay.state c.args.bay.now) l) (sym (c.members.ensures.members ∙ c.attached_to-holders.ensures))
    (have_slots (g.B.Bay.state c.args.bay.now) c.args.places.now c.args.status.now c.requires.slots)

pub write_on_majorities-requires-clause-apart : goal.write_on_majorities-requires-clause-apart
write_on_majorities-requires-clause-apart g c = subst HaveOwnSlots (sym (c.members.ensures.members ∙ c.attached_to-holders.ensures)) (holders_apart c.args.places.now c.args.status.now c.requires.apart)

pub write_on_majorities-requires-clause-holders : goal.write_on_majorities-requires-clause-holders
write_on_majorities-requires-clause-holders g c = subst (λ (l : List Member). AreHolders c.args.status.now.entries l) (sym (c.members.ensures.members ∙ c.attached_to-holders.ensures)) (are_holders c.args.places.now c.args.status.now)
