use Rattle.std.proofs.Common.{◌∙◌, List, sym, subst}
use Rattle.status_register.specs.Rows.{HaveOwnSlots}
use Rattle.status_register.specs.Tallies.{HaveSlots}
use Rattle.status_register.specs.declared.member.Member.{Member}
use Rattle.status_register.proofs.Holding.{have_slots, holders_apart}
use Rattle.status_register.proofs.writing.write_first.Goals as goal

pub write_on_all-requires-clause-slots : goal.write_on_all-requires-clause-slots
write_on_all-requires-clause-slots g c = subst (λ (l : List Member). HaveSlots (g.B.Bay.state c.args.bay.now) l) (sym (c.members.ensures.members ∙ c.attached_to-holders.ensures))
    (have_slots (g.B.Bay.state c.args.bay.now) c.args.places.now c.args.status.now c.requires.slots)

pub write_on_all-requires-clause-apart : goal.write_on_all-requires-clause-apart
write_on_all-requires-clause-apart g c = subst HaveOwnSlots (sym (c.members.ensures.members ∙ c.attached_to-holders.ensures)) (holders_apart c.args.places.now c.args.status.now c.requires.apart)
