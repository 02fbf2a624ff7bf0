use Rattle.alias_tree.proofs.ByName.{under_by_name}
use Rattle.alias_tree.proofs.Under.{under_is, under_once}
use Rattle.alias_tree.proofs.tree.AliasTree.children.Goals as goal

pub returns-clause-each : goal.returns-clause-each
returns-clause-each c =
    rw (← c.self.view_is) (under_is c.self.inside.nodes c.self.inside.places c.args.node c.in_ok-numbers.numbers.items c.self.invariant.0 c.self.invariant.1 c.under.ensures.ordered c.in_ok-numbers.ensures.numbers)

pub returns-clause-once : goal.returns-clause-once
returns-clause-once c =
    under_once c.self.inside.nodes c.self.inside.places c.args.node c.in_ok-numbers.numbers.items c.self.invariant.1 c.under.ensures.ordered c.in_ok-numbers.ensures.numbers

pub returns-clause-order : goal.returns-clause-order
returns-clause-order c =
    rw (← c.self.view_is) (under_by_name c.self.inside.nodes c.self.inside.places c.args.node c.in_ok-numbers.numbers.items c.self.invariant.0 c.self.invariant.1 c.under.ensures.ordered c.in_ok-numbers.ensures.numbers)
