use Rattle.group_of.proofs.Refusals.{attribute_refusals, template_refusals, tree_refusals}
use Rattle.group_of.proofs.edits.refusals_of_edits_are_the_worlds.Goals as goal

pub returns : goal.returns
returns c = record { tree = tree_refusals; templates = template_refusals; attributes = attribute_refusals }
