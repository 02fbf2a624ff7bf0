use Rattle.std.proofs.Common.{take}
use Rattle.disk_modes.specs.Stops.{AreTakenAs}
use Rattle.disk_modes.proofs.dropping.check_named.Given as goal

-- those so far are
abbrev pub invariant-loop-one : goal.invariant-loop-one
invariant-loop-one l = AreTakenAs l.m l.named.forced (take l.one-index l.disks)
