use Rattle.std.proofs.Common.{length}
use Rattle.new_groups.proofs.sizes.+all_units.Given as goal

abbrev pub decreases-all_units : goal.decreases-all_units
decreases-all_units l = length l.disks.now
