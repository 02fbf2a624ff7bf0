use Rattle.std.proofs.Common.{◌≡◌}
use Rattle.catalog_tables.specs.Rules.{first_wrong, is_owned}
use Rattle.table_tests.proofs.catalogs.operations.are_owned.Given as goal

abbrev pub invariant-loop-at : goal.invariant-loop-at
invariant-loop-at l = first_wrong (is_owned (record l.group.tables { operations = record l.group.tables.operations { pending = l.op } })) l.at-iterator ≡ first_wrong (is_owned (record l.group.tables { operations = record l.group.tables.operations { pending = l.op } })) l.group.tables.extents
