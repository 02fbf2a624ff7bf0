use Rattle.std.proofs.Common.{◌≡◌, ℕ, ◌<◌, false}
use Rattle.asm_formats.specs.Sets.{has_bit}
use Rattle.disk_modes.proofs.checking.least_of.Given as goal

-- none of those so far is in the set
abbrev pub invariant-loop-disk : goal.invariant-loop-disk
invariant-loop-disk l = (k : ℕ) → k < l.disk → has_bit l.set k ≡ false
