use Rattle.std.proofs.Common.{◌≡◌, ℕ, ◌<◌, true}
use Rattle.extent_map.specs.Extents.{extent_at}
use Rattle.catalog_tables.specs.Rules.{has_copies}
use Rattle.table_tests.proofs.catalogs.files.has_extents.Given as goal

abbrev pub invariant-loop-index : goal.invariant-loop-index
invariant-loop-index l = (i : ℕ) → i < l.index → has_copies l.copies (extent_at l.group.tables.extents l.file i) ≡ true
