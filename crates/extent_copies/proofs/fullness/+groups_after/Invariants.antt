use Rattle.std.proofs.Common.{◌-◌}
use Rattle.extent_copies.proofs.fullness.+groups_after.Given as goal

abbrev pub decreases-groups_after : goal.decreases-groups_after
decreases-groups_after l = 256 - l.copy
