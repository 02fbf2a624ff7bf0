use Rattle.std.proofs.Common.{◌≡◌, drop, map}
use Rattle.asm_formats.specs.Status.{ascends_from}
use Rattle.store_tests.proofs.Trying.{slot_of}
use Rattle.store_tests.proofs.registers.trials.ascend.Given as goal

abbrev pub invariant-loop-member : goal.invariant-loop-member
invariant-loop-member l = ascends_from l.least (map slot_of (drop l.member-index l.members)) ≡ ascends_from 0 (map slot_of l.members)
