use Rattle.extent_copies.proofs.Counting.{IsFirst}
use Rattle.group_reports.specs.Extents.{is_kept_elsewhere}
use Rattle.group_reports.proofs.checking.is_kept_elsewhere.Given as goal

abbrev pub invariant-loop-copy : goal.invariant-loop-copy
invariant-loop-copy l = IsFirst (is_kept_elsewhere l.disks l.disk l.extent) l.extent.copies 0 l.copy
