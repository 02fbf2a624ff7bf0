use Rattle.std.proofs.Common.{◌≡◌}
use Rattle.catalog_tables.specs.Rules.{first_wrong, is_named_back}
use Rattle.catalog_tables.proofs.parts.Parts.nameless_node.Given as goal

abbrev pub invariant-loop-number : goal.invariant-loop-number
invariant-loop-number l = first_wrong (is_named_back l.self) l.number-iterator ≡ first_wrong (is_named_back l.self) l.self.nodes
