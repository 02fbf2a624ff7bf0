use Rattle.alias_tree.proofs.FileNumbers.{names_are}
use Rattle.alias_tree.proofs.nodes.Nodes.names_of.Goals as goal

pub returns : goal.returns
returns c =
    rw (← c.self.view_is)
    (names_are c.self.inside.map.entries c.self.inside.names c.args.file c.in_ok-numbers.numbers.items (rw c.self.view_is c.requires) c.self.invariant.0 c.in_ok-numbers.ensures)
