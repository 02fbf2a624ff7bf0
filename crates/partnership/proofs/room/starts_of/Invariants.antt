use Rattle.std.proofs.Common.{◌≤◌}
use Rattle.partnership.proofs.Starts.{AreStartsTo}
use Rattle.partnership.proofs.room.starts_of.Given as goal

abbrev pub invariant-loop-disk : goal.invariant-loop-disk
invariant-loop-disk l = (l.disk ≤ 256) × AreStartsTo l.n l.units l.starts l.disk
