use Rattle.extent_copies.specs.Usable.{is_current_at}
use Rattle.extent_copies.proofs.Counting.{IsFirst}
use Rattle.group_reports.proofs.checking.has_current.Given as goal

abbrev pub invariant-loop-copy : goal.invariant-loop-copy
invariant-loop-copy l = IsFirst (is_current_at l.disks l.extent) l.extent.copies 0 l.copy
