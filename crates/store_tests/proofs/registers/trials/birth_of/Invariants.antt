use Rattle.std.proofs.Common.{◌≡◌, drop}
use Rattle.asm_formats.specs.Status.{entry_of}
use Rattle.store_tests.proofs.registers.trials.birth_of.Given as goal

abbrev pub invariant-loop-entry : goal.invariant-loop-entry
invariant-loop-entry l = entry_of (drop l.entry-index l.entries) l.disk ≡ entry_of l.entries l.disk
