use Rattle.std.proofs.Common.{◌<◌, ℕ}
use Rattle.group_engine.specs.Trying.{HasBirthAt}
use Rattle.group_engine.proofs.mounted.Mounted.has_births.Given as goal

abbrev pub invariant-loop-disk : goal.invariant-loop-disk
invariant-loop-disk l = (k : ℕ) → k < l.disk → HasBirthAt l.fn.next.entries l.fn.self.register.members k
