use Rattle.std.proofs.Common.{◌≡◌}
use Rattle.alias_tree.specs.Nodes.{reaches_root}
use Rattle.alias_tree.proofs.nodes.Nodes.reaches_root.Given as goal

abbrev pub invariant-loop-left : goal.invariant-loop-left
invariant-loop-left l = reaches_root l.self l.left l.at ≡ reaches_root l.self l.steps l.number

abbrev pub decreases-loop-left : goal.decreases-loop-left
decreases-loop-left l = l.left
