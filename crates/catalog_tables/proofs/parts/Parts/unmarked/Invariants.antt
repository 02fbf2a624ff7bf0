use Rattle.std.proofs.Common.{◌≡◌}
use Rattle.catalog_tables.specs.Rules.{first_wrong, has_marks}
use Rattle.catalog_tables.proofs.parts.Parts.unmarked.Given as goal

abbrev pub invariant-loop-at : goal.invariant-loop-at
invariant-loop-at l = first_wrong (has_marks l.self) l.at-iterator ≡ first_wrong (has_marks l.self) l.self.extents
