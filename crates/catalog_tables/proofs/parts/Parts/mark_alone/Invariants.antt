use Rattle.std.proofs.Common.{◌≡◌}
use Rattle.catalog_tables.specs.Rules.{first_wrong, is_marked_right}
use Rattle.catalog_tables.proofs.parts.Parts.mark_alone.Given as goal

abbrev pub invariant-loop-at : goal.invariant-loop-at
invariant-loop-at l = first_wrong (is_marked_right l.self) l.at-iterator ≡ first_wrong (is_marked_right l.self) l.self.stale
