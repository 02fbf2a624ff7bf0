use Rattle.std.proofs.Common.{◌≡◌}
use Rattle.catalog.specs.NamePlans.{is_within_file}
use Rattle.catalog_tables.specs.Rules.{first_wrong}
use Rattle.table_tests.proofs.catalogs.names.has_no_chunk.Given as goal

abbrev pub invariant-loop-at : goal.invariant-loop-at
invariant-loop-at l = first_wrong (is_within_file l.file 2) l.at-iterator ≡ first_wrong (is_within_file l.file 2) l.group.tables.extents
