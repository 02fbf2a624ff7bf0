use Rattle.alias_edits.specs.Filing.{ReachesDirectory}
use Rattle.alias_edits.proofs.filing.front_of.Given as goal

abbrev pub invariant-loop-there : goal.invariant-loop-there
invariant-loop-there l = ReachesDirectory l.tree l.dirs l.there l.number
