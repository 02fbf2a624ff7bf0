use Rattle.alias_edits.proofs.Done.{moved_alias_table}
use Rattle.alias_edits.proofs.changing.moved_alias.Goals as goal

pub returns-clause-table : goal.returns-clause-table
returns-clause-table c =
    moved_alias_table c.args.tree.now c.args.old.now.parts c.args.new.now.parts c.in_ok-number.number c.in_ok-number.node c.keeps_rule.ensures c.requires.free c.in_ok-number.ensures c.requires.parts
