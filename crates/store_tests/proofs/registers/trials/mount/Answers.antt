use Rattle.std.proofs.Common.{List, sym, subst}
use Rattle.status_register.specs.Registered.{AreNumbered}
use Rattle.status_register.specs.Rows.{HaveOwnSlots}
use Rattle.status_register.specs.Tallies.{HaveSlots}
use Rattle.status_register.specs.declared.member.Member.{Member}
use Rattle.status_register.proofs.Filling.{still_slots}
use Rattle.store_tests.proofs.registers.trials.mount.Goals as goal

pub claim-requires-clause-slots : goal.claim-requires-clause-slots
claim-requires-clause-slots g c = subst (λ (l : List Member). HaveSlots (g.B.Bay.state c.read.new.bay) l) (sym c.in-Ok.ensures.surveyed.1)
    (λ m h. still_slots (c.attach_all.ensures c.if-not-attach_all.false m h) c.read.ensures.calls.attached)

pub claim-requires-clause-apart : goal.claim-requires-clause-apart
claim-requires-clause-apart g c = subst HaveOwnSlots (sym c.in-Ok.ensures.surveyed.1) (c.may_be_members.ensures.apart c.if-not-may_be_members.false)

pub claim-requires-clause-numbers : goal.claim-requires-clause-numbers
claim-requires-clause-numbers g c = subst AreNumbered (sym c.in-Ok.ensures.surveyed.1) (c.may_be_members.ensures.numbers c.if-not-may_be_members.false)
