use Rattle.std.proofs.Common.{length}
use Rattle.group_recovery.proofs.missing.+first_missing.Given as goal

abbrev pub decreases-first_missing : goal.decreases-first_missing
decreases-first_missing l = length l.entries.now
