use Rattle.std.proofs.Common.{◌≡◌, take}
use Rattle.session.specs.Joining.{without_own}
use Rattle.session.proofs.joining.other_slots.Given as goal

abbrev pub invariant-loop-slot : goal.invariant-loop-slot
invariant-loop-slot l = l.others.items ≡ without_own l.own (take l.slot-index l.slots)
