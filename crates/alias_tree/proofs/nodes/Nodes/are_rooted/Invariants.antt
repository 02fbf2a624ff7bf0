use Rattle.std.proofs.Common.{◌≡◌}
use Rattle.std.specs.List.{list_all}
use Rattle.alias_tree.specs.Nodes.{is_right}
use Rattle.alias_tree.proofs.nodes.Nodes.are_rooted.Given as goal

abbrev pub invariant-loop-number : goal.invariant-loop-number
invariant-loop-number l = list_all (is_right l.self) l.number-iterator ≡ list_all (is_right l.self) l.self
