use Rattle.std.proofs.Common.{◌≡◌, drop, map}
use Rattle.asm_formats.specs.Status.{ascends_from}
use Rattle.status_table.specs.Rules.{number_of_entry}
use Rattle.status_table.proofs.rules.ascend.Given as goal

abbrev pub invariant-loop-entry : goal.invariant-loop-entry
invariant-loop-entry l = ascends_from l.least (map number_of_entry (drop l.entry-index l.entries)) ≡ ascends_from 0 (map number_of_entry l.entries)
