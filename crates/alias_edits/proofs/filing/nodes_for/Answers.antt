use Rattle.std.proofs.Common.{arith, ◌≡◌, ap, length}
use Rattle.asm_group.specs.Names.{Path}
use Rattle.asm_group.specs.TreeEdits.{up}
use Rattle.alias_edits.proofs.NewNodes.{AllMade, none_made, dir_made, name_made}
use Rattle.alias_edits.proofs.filing.nodes_for.Goals as goal

pub loop-i-init : goal.loop-i-init
loop-i-init c =
    none_made c.args.tree.now c.new-made.result.items c.args.path.now.parts c.args.front.there c.args.front.number c.keeps_rule.ensures c.requires.some c.requires.front c.requires.free c.new-made.ensures.items

pub loop-i-preserved : goal.loop-i-preserved
loop-i-preserved c =
    dir_made c.args.tree.now c.loop-i.made.items c.push.new.made.items c.args.path.now.parts c.above-dirs.result.now c.loop-i.i c.loop-i.parent c.loop-i.before c.in_ok-number.number c.index-dirs-i.result c.in_ok-number.node c.above-dirs.ensures
    c.loop-i.invariant c.requires.parts c.loop-i-test.true c.index-dirs-i.is c.in_ok-number.ensures.free c.in_ok-number.ensures.small c.in_ok-number.ensures.parent_is c.in_ok-number.ensures.name_is c.in_ok-number.ensures.kind_is
    c.in_ok-number.ensures.file_is c.in_ok-push.ensures

at_end : (c : goal.In_ok-push-2) → c.loop-i.i ≡ length c.above-dirs.result.now
at_end c =
    let same : length c.above-dirs.result.now ≡ length (up c.args.path.now.parts) = ap (λ (q : Path). length q) c.above-dirs.ensures in
    omega (arith, c.loop-i.auto.i-end, c.loop-i-test.false, c.requires.front.few, same)

all : (c : goal.In_ok-push-2) → AllMade c.args.tree.now c.push-2.new.made.items c.args.path.now.parts c.args.file
all c =
    name_made c.args.tree.now c.loop-i.made.items c.push-2.new.made.items c.args.path.now.parts c.above-dirs.result.now c.loop-i.i c.loop-i.parent c.loop-i.before c.in_ok-number-2.number c.args.file c.in_ok-number-2.node c.above-dirs.ensures
    c.loop-i.invariant c.requires.parts c.requires.some (at_end c) c.in_ok-number-2.ensures.free c.in_ok-number-2.ensures.small
    c.in_ok-number-2.ensures.parent_is c.last.result.now c.in_ok-number-2.ensures.name_is c.last.ensures c.in_ok-number-2.ensures.kind_is c.in_ok-number-2.ensures.file_is c.ranges.file.fits c.in_ok-push-2.ensures

pub returns-clause-tree : goal.returns-clause-tree
returns-clause-tree c = (all c).tree

pub returns-clause-table : goal.returns-clause-table
returns-clause-table c = (all c).table

pub returns-clause-nodes : goal.returns-clause-nodes
returns-clause-nodes c = (all c).filing

pub returns-clause-few : goal.returns-clause-few
returns-clause-few c = (all c).few

pub returns-clause-fresh : goal.returns-clause-fresh
returns-clause-fresh c = (all c).fresh

pub returns-clause-count : goal.returns-clause-count
returns-clause-count c = (all c).count

pub returns-clause-items : goal.returns-clause-items
returns-clause-items c = (all c).items
