use Rattle.alias_tree.proofs.Paths.{up_of}
use Rattle.alias_edits.proofs.causes.above.Goals as goal

pub returns-in-Some : goal.returns-in-Some
returns-in-Some c = up_of c.args.path.now.parts c.in-Some.above.now c.in-Some._last.now (rw c.as_slice-parts.ensures at c.in-Some.ensures.cases.0)
