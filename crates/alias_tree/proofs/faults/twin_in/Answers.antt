use Rattle.alias_tree.proofs.Rules.{so_far_twin}
use Rattle.alias_tree.proofs.faults.twin_in.Goals as goal

pub returns-then-not-branch-clause-twin : goal.returns-then-not-branch-clause-twin
returns-then-not-branch-clause-twin c =
    so_far_twin c.args.nodes.now (c.in-Some.number.now, c.in-Some.node.now) c.next.new.self c.loop-number.places (rw c.in-Some.ensures.steps at c.loop-number.invariant.so_far) (rw c.if-not-branch.true at c.in_ok-add_place.ensures.refused)
