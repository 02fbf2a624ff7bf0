use Rattle.std.proofs.Common.{length}
use Rattle.alias_edits.proofs.Names.{NamesSoFar}
use Rattle.alias_edits.proofs.changing.drop_names.Given as goal

abbrev pub invariant-loop-number : goal.invariant-loop-number
invariant-loop-number l = NamesSoFar l.fn.tree l.tree l.fn.file

abbrev pub decreases-loop-number : goal.decreases-loop-number
decreases-loop-number l = length l.tree
