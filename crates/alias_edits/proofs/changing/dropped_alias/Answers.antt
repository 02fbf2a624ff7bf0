use Rattle.alias_edits.proofs.Done.{alias_missing, alias_gone_table}
use Rattle.alias_edits.proofs.changing.dropped_alias.Goals as goal

pub unreachable-requires : goal.unreachable-requires
unreachable-requires c = alias_missing c.args.tree.now c.args.path.now.parts c.find.result c.keeps_rule.ensures c.requires c.find.ensures c.in_default.is

pub returns-clause-table : goal.returns-clause-table
returns-clause-table c = alias_gone_table c.args.tree.now c.args.path.now.parts c.find.result c.in-Some.number c.keeps_rule.ensures c.requires c.find.ensures c.in-Some.is
