use Rattle.std.proofs.Common.{length}
use Rattle.group_recovery.proofs.choosing.+ids_named.Given as goal

abbrev pub decreases-ids_named : goal.decreases-ids_named
decreases-ids_named l = length l.headed.now
