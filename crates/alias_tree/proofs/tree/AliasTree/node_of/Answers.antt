use Rattle.std.specs.Option.{option_copied}
use Rattle.alias_tree.proofs.Lookups.{node_is, node_is_none}
use Rattle.alias_tree.proofs.tree.AliasTree.node_of.Goals as goal

pub returns-in-Some : goal.returns-in-Some
returns-in-Some c =
    let n = node_is c.self.inside.nodes c.args.self.now c.args.parts.now c.find_parts.result c.in-Some.number (option_copied c.get.result) c.self.view_is c.self.invariant.0 c.find_parts.ensures c.in-Some.is c.get.ensures in
    record { node = n.0; entry = n.1 }

pub returns-in-None : goal.returns-in-None
returns-in-None c =
    let n = node_is_none c.self.inside.nodes c.args.self.now c.args.parts.now c.find_parts.result c.self.view_is c.self.invariant.0 c.find_parts.ensures c.in-None.is in
    record { node = n.0; entry = n.1 }
