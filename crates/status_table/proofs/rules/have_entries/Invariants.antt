use Rattle.std.proofs.Common.{◌≡◌}
use Rattle.asm_formats.specs.Status.{have_entries}
use Rattle.status_table.proofs.Allowed.{left_to_test}
use Rattle.status_table.proofs.rules.have_entries.Given as goal

abbrev pub invariant-loop-disk : goal.invariant-loop-disk
invariant-loop-disk l = left_to_test l.entries l.set l.disk ≡ have_entries l.entries l.set
