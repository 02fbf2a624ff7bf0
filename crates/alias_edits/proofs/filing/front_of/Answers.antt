use Rattle.std.proofs.Common.{sym, ◌∙◌}
use Rattle.alias_edits.proofs.Fronts.{reach_more}
use Rattle.alias_edits.proofs.filing.front_of.Goals as goal

pub loop-there-preserved : goal.loop-there-preserved
loop-there-preserved c =
    reach_more c.args.tree.now c.args.dirs.now c.loop-there.there c.loop-there.number c.in-Some.next c.index-dirs-there.result c.keeps_rule.ensures c.loop-there.invariant c.loop-there-test.true c.index-dirs-there.is (sym c.child.ensures ∙ c.in-Some.is)
