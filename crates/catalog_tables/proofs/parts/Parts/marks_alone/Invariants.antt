use Rattle.std.proofs.Common.{◌≡◌}
use Rattle.catalog_tables.specs.Rules.{first_wrong, has_chunk}
use Rattle.catalog_tables.proofs.parts.Parts.marks_alone.Given as goal

abbrev pub invariant-loop-at : goal.invariant-loop-at
invariant-loop-at l = first_wrong (has_chunk l.self) l.at-iterator ≡ first_wrong (has_chunk l.self) l.self.stale
