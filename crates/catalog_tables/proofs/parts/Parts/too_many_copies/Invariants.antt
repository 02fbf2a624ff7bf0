use Rattle.std.proofs.Common.{◌≡◌}
use Rattle.catalog_tables.specs.Rules.{first_wrong, keeps_copies}
use Rattle.catalog_tables.proofs.parts.Parts.too_many_copies.Given as goal

abbrev pub invariant-loop-at : goal.invariant-loop-at
invariant-loop-at l = first_wrong (keeps_copies l.self) l.at-iterator ≡ first_wrong (keeps_copies l.self) l.self.extents
