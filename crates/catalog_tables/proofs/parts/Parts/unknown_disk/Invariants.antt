use Rattle.std.proofs.Common.{◌≡◌, drop}
use Rattle.catalog_tables.specs.Rules.{first_unknown}
use Rattle.catalog_tables.proofs.parts.Parts.unknown_disk.Given as goal

abbrev pub invariant-loop-entry : goal.invariant-loop-entry
invariant-loop-entry l = first_unknown l.self (drop l.entry-index l.entries) ≡ first_unknown l.self l.entries
