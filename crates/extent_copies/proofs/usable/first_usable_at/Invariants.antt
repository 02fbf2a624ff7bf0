use Rattle.extent_copies.specs.Usable.{is_usable_at}
use Rattle.extent_copies.proofs.Counting.{IsFirst}
use Rattle.extent_copies.proofs.usable.first_usable_at.Given as goal

abbrev pub invariant-loop-copy : goal.invariant-loop-copy
invariant-loop-copy l = IsFirst (is_usable_at l.attached l.disks l.extent) l.extent.copies l.from l.copy
