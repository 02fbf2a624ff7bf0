use Rattle.alias_tree.proofs.OpenLaws.{removed_keeps_nodes}
use Rattle.alias_tree.proofs.opening.OpenTree.remove_record.Goals as goal

pub invariant_of-self : goal.invariant_of-self
invariant_of-self c = (removed_keeps_nodes c.self.inside.nodes c.remove_node.new.nodes c.args.number c.remove_node.ensures.after c.self.invariant.0, c.remove_node.ensures.index)
