use Rattle.std.proofs.Common.{take}
use Rattle.status_register.specs.Tallies.{HaveSlots}
use Rattle.store_tests.proofs.registers.trials.attach_all.Given as goal

abbrev pub invariant-loop-member : goal.invariant-loop-member
invariant-loop-member g l = HaveSlots (g.B.Bay.state l.bay) (take l.member-index l.members)
