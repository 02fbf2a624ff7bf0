use Rattle.std.proofs.Common.{length}
use Rattle.disk_joining.proofs.looking.+put_slots.Given as goal

abbrev pub decreases-put_slots : goal.decreases-put_slots
decreases-put_slots l = length l.disks.now
