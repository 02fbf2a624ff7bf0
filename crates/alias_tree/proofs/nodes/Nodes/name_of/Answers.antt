use Rattle.alias_tree.proofs.FileLaws.{some_name}
use Rattle.alias_tree.proofs.nodes.Nodes.name_of.Goals as goal

pub returns-clause-there : goal.returns-clause-there
returns-clause-there c = rw (← c.self.view_is) (some_name c.self.inside.map.entries c.self.inside.names c.args.file c.first.result (rw (← c.self.view_is) at c.requires) c.self.invariant.0 c.first.ensures.found c.first.ensures.none)
