use Rattle.std.proofs.Common.{sym, subst, rules, arith, List, length, ◌<◌}
use Rattle.alias_tree.specs.Nodes.{Numbered}
use Rattle.alias_edits.proofs.Names.{NamesSoFar, name_gone_table, names_shorter, names_step, names_end}
use Rattle.alias_edits.proofs.changing.drop_names.Goals as goal

pub remove-requires : goal.remove-requires
remove-requires c = name_gone_table c.loop-number.tree c.args.file c.in-Some.number c.loop-number.invariant.table c.in-Some.ensures.named

pub loop-number-smaller : goal.loop-number-smaller
loop-number-smaller c =
    subst (λ (new : List Numbered). length new < length c.loop-number.tree) (sym c.remove.ensures.after) (names_shorter c.loop-number.tree c.args.file c.in-Some.number c.in-Some.ensures.named)

pub loop-number-preserved : goal.loop-number-preserved
loop-number-preserved c =
    subst (λ (new : List Numbered). NamesSoFar c.args.tree.now new c.args.file) (sym c.remove.ensures.after) (names_step c.args.tree.now c.loop-number.tree c.args.file c.in-Some.number c.loop-number.invariant c.in-Some.ensures.named)

pub returns : goal.returns
returns c = names_end c.args.tree.now c.loop-number.tree c.args.file c.loop-number.invariant (first_of (search rules, cc, grind arith))
