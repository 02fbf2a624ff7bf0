use Rattle.std.proofs.Common.{length}
use Rattle.new_groups.proofs.lists.+put_holders.Given as goal

abbrev pub decreases-put_holders : goal.decreases-put_holders
decreases-put_holders l = length l.disks.now
