use Rattle.std.proofs.Common.{◌-◌}
use Rattle.extent_copies.proofs.fullness.+has_group.Given as goal

abbrev pub decreases-has_group : goal.decreases-has_group
decreases-has_group l = 256 - l.copy
