use Rattle.alias_tree.proofs.FileNodes.{names_gone_table}
use Rattle.alias_tree.proofs.tree.AliasTree.names_of.Goals as goal

pub returns-clause-table : goal.returns-clause-table
returns-clause-table c =
    rw (← c.self.view_is)
    (names_gone_table c.self.inside.nodes c.args.file c.in_ok-numbers.numbers.items c.self.invariant.0 c.in_ok-numbers.ensures)
