use Rattle.alias_edits.proofs.Done.{above_missing, hangs_above, hangs_name}
use Rattle.alias_edits.proofs.changing.node_for.Goals as goal

pub unreachable-requires : goal.unreachable-requires
unreachable-requires c = above_missing c.args.tree.now c.args.path.now.parts c.above.result.now c.find_parts.result c.keeps_rule.ensures c.requires c.above.ensures c.find_parts.ensures c.in_default.is

pub returns-clause-hangs : goal.returns-clause-hangs
returns-clause-hangs c = record {
  above = hangs_above c.args.tree.now c.args.path.now.parts c.above.result.now c.find_parts.result c.in-Some.parent c.above.ensures c.find_parts.ensures c.in-Some.is;
  name = hangs_name c.args.path.now.parts c.as_slice.result.now c.in-Some-split_last._above.now c.in-Some-split_last.last.now c.in_ok-copy.field-0 c.as_slice.ensures c.in-Some-split_last.ensures.cases.0 c.in_ok-copy.ensures;
}
