use Rattle.std.proofs.Common.{take}
use Rattle.disk_modes.specs.Effects.{AreNamedToDrop}
use Rattle.disk_modes.proofs.dropping.named_by.Given as goal

abbrev pub invariant-loop-one : goal.invariant-loop-one
invariant-loop-one l = AreNamedToDrop (take l.one-index l.disks) l.named.dropping l.named.forced
