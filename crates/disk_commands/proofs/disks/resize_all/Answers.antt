use Rattle.std.proofs.Common.{refl}
use Rattle.disk_commands.proofs.disks.resize_all.Goals as goal

pub change-requires-clause-unproved : goal.change-requires-clause-unproved
change-requires-clause-unproved g c = rw c.requires.asked refl
