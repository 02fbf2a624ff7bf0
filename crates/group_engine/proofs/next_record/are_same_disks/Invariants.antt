use Rattle.std.proofs.Common.{◌≡◌, ◌<◌, ℕ, true}
use Rattle.asm_formats.specs.Sets.{has_bit}
use Rattle.group_engine.specs.Trying.{birth_in}
use Rattle.group_engine.proofs.next_record.are_same_disks.Given as goal

abbrev pub invariant-loop-disk : goal.invariant-loop-disk
invariant-loop-disk l = (k : ℕ) → k < l.disk → has_bit l.set k ≡ true → birth_in l.one k ≡ birth_in l.other k
