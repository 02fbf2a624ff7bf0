use Rattle.std.proofs.Common.{◌≡◌, drop}
use Rattle.disk_modes.specs.Modes.{other}
use Rattle.disk_modes.proofs.checking.other.Given as goal

abbrev pub invariant-loop-entry : goal.invariant-loop-entry
invariant-loop-entry l = other l.statement l.disks (drop l.entry-index l.entries) ≡ other l.statement l.disks l.entries
