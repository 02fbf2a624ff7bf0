use Rattle.std.proofs.Common.{◌≡◌, ◌++◌, map, take}
use Rattle.plan_records.specs.alias_tree.Nodes.{record_of_node}
use Rattle.catalog.proofs.plans.names.put_nodes.Given as goal

abbrev pub invariant-loop-number : goal.invariant-loop-number
invariant-loop-number l = l.put ≡ l.fn.put ++ map record_of_node (take l.number-index l.made)
