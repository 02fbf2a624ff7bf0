use Rattle.std.proofs.Common.{refl}
use Rattle.disk_commands.proofs.disks.online_disks.Goals as goal

pub bring_back-requires-clause-unproved : goal.bring_back-requires-clause-unproved
bring_back-requires-clause-unproved g c = rw c.requires.asked refl
