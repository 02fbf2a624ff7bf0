use Rattle.std.proofs.Common.{◌≡◌, ◌<◌, ◌^◌, arith}
use Rattle.alias_tree.specs.Nodes.{IsNodeTable, with_numbered_node}
use Rattle.alias_edits.proofs.Done.{made_table}
use Rattle.alias_edits.proofs.Edited.{put_number}
use Rattle.alias_edits.proofs.changing.new_node.Goals as goal

pub returns-clause-table : goal.returns-clause-table
returns-clause-table c =
    let same : c.in_ok-node.node.file ≡ c.args.file = c.in_ok-node.ensures.file_is in
    let small : c.in_ok-node.node.file < 2 ^ 32 = omega arith in
    made_table c.args.tree.now c.args.path.now.parts c.in-Some.number c.in_ok-node.node c.keeps_rule.ensures c.requires.free c.in_ok-node.ensures.hangs c.requires.parts c.in-Some.ensures.least c.in-Some.ensures.small small

pub returns-clause-made : goal.returns-clause-made
returns-clause-made c =
    let same : c.in_ok-node.node.file ≡ c.args.file = c.in_ok-node.ensures.file_is in
    let small : c.in_ok-node.node.file < 2 ^ 32 = omega arith in
    let table : IsNodeTable (with_numbered_node c.args.tree.now c.in-Some.number c.in_ok-node.node) =
    made_table c.args.tree.now c.args.path.now.parts c.in-Some.number c.in_ok-node.node c.keeps_rule.ensures c.requires.free c.in_ok-node.ensures.hangs c.requires.parts c.in-Some.ensures.least c.in-Some.ensures.small small in
    record {
      free = c.in-Some.ensures.least;
      hangs = c.in_ok-node.ensures.hangs;
      kind_is = c.in_ok-node.ensures.kind_is;
      file_is = c.in_ok-node.ensures.file_is;
      at = put_number c.args.tree.now c.args.path.now.parts c.in-Some.number c.in_ok-node.node c.keeps_rule.ensures table c.requires.free c.in_ok-node.ensures.hangs c.in-Some.ensures.least.free;
    }
