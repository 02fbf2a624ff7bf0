use Rattle.std.proofs.Common.{length}
use Rattle.disk_joining.proofs.slots.+has_slot.Given as goal

abbrev pub decreases-has_slot : goal.decreases-has_slot
decreases-has_slot l = length l.disks.now
