use Rattle.std.proofs.Common.{◌≡◌}
use Rattle.catalog_tables.specs.Rules.{first_wrong, is_owned}
use Rattle.catalog_tables.proofs.parts.Parts.unowned.Given as goal

abbrev pub invariant-loop-at : goal.invariant-loop-at
invariant-loop-at l = first_wrong (is_owned l.self) l.at-iterator ≡ first_wrong (is_owned l.self) l.self.extents
