use Rattle.std.proofs.Common.{◌≡◌}
use Rattle.catalog_tables.specs.Rules.{first_wrong, is_regular_chunk}
use Rattle.catalog_tables.proofs.parts.Parts.on_quorum.Given as goal

abbrev pub invariant-loop-at : goal.invariant-loop-at
invariant-loop-at l = first_wrong (is_regular_chunk l.entries) l.at-iterator ≡ first_wrong (is_regular_chunk l.entries) l.self.extents
