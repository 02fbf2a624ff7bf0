use Rattle.std.proofs.Common.{◌≡◌, ℕ, ◌<◌, true}
use Rattle.asm_formats.specs.Sets.{has_bit}
use Rattle.disk_modes.proofs.checking.is_within.Given as goal

-- those so far are
abbrev pub invariant-loop-disk : goal.invariant-loop-disk
invariant-loop-disk l = (d : ℕ) → d < l.disk → has_bit l.set d ≡ true → has_bit l.all d ≡ true
