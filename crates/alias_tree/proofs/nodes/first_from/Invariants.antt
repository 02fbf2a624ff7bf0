use Rattle.std.proofs.Common.{◌<◌, ◌≤◌, ◌-◌, ◌^◌, ℕ}
use Rattle.std.specs.Prelude.{IsTrue, is_some}
use Rattle.alias_tree.specs.Nodes.{node_at}
use Rattle.alias_tree.proofs.nodes.first_from.Given as goal

abbrev pub invariant-loop-number : goal.invariant-loop-number
invariant-loop-number l = record {
  from : l.from ≤ l.number;
  small : l.number < 2 ^ 32;
  taken : (k : ℕ) → l.from ≤ k → k < l.number → IsTrue (is_some (node_at l.map.entries k));
}

abbrev pub decreases-loop-number : goal.decreases-loop-number
decreases-loop-number l = 2 ^ 32 - l.number
