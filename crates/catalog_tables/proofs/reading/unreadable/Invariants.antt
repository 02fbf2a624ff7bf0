use Rattle.std.proofs.Common.{◌≡◌}
use Rattle.catalog_tables.specs.Tables.{first_unreadable}
use Rattle.catalog_tables.proofs.reading.unreadable.Given as goal

abbrev pub invariant-loop-key : goal.invariant-loop-key
invariant-loop-key l = first_unreadable l.key-iterator ≡ first_unreadable l.content
