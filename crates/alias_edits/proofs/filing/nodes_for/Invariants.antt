use Rattle.alias_edits.proofs.NewNodes.{SoFar}
use Rattle.alias_edits.proofs.filing.nodes_for.Given as goal

abbrev pub invariant-loop-i : goal.invariant-loop-i
invariant-loop-i l = SoFar l.tree l.made.items l.path.parts l.i l.parent l.before
