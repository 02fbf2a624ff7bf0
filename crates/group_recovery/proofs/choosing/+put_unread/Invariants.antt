use Rattle.std.proofs.Common.{length}
use Rattle.group_recovery.proofs.choosing.+put_unread.Given as goal

abbrev pub decreases-put_unread : goal.decreases-put_unread
decreases-put_unread l = length l.members.now
