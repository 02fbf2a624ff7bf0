use Rattle.alias_tree.proofs.Spelled.{IsWayUp}
use Rattle.alias_tree.proofs.tree.AliasTree.names_up.Given as goal

abbrev pub invariant-loop-step : goal.invariant-loop-step
invariant-loop-step l = IsWayUp l.self l.node l.step l.at l.names.items
