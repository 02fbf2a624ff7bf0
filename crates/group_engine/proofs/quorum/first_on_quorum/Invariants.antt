use Rattle.std.proofs.Common.{◌≡◌}
use Rattle.rebalance.specs.catalog_tables.Rules.{first_wrong, is_regular_chunk}
use Rattle.group_engine.proofs.quorum.first_on_quorum.Given as goal

abbrev pub invariant-loop-at : goal.invariant-loop-at
invariant-loop-at l = first_wrong (is_regular_chunk l.disks) l.at-iterator ≡ first_wrong (is_regular_chunk l.disks) l.catalog.tables.extents
