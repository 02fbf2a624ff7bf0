use Rattle.std.proofs.Common.{◌≡◌, drop}
use Rattle.asm_formats.specs.Status.{entry_of}
use Rattle.partnership.proofs.replacement.entry_of.Given as goal

abbrev pub invariant-loop-disk : goal.invariant-loop-disk
invariant-loop-disk l = entry_of (drop l.disk-index l.disks) l.d ≡ entry_of l.disks l.d
