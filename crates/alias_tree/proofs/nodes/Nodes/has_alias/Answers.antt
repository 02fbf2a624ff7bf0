use Rattle.alias_tree.proofs.FileLaws.{some_alias}
use Rattle.alias_tree.proofs.nodes.Nodes.has_alias.Goals as goal

pub returns : goal.returns
returns c = rw (← c.self.view_is) (some_alias c.self.inside.map.entries c.self.inside.names c.args.file c.has_alias.result (rw (← c.self.view_is) at c.requires) c.self.invariant.0 c.has_alias.ensures.found c.has_alias.ensures.none)
