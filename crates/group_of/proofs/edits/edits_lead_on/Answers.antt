use Rattle.group_of.proofs.Leading.{attribute_leads_on, template_leads_on, tree_leads_on}
use Rattle.group_of.proofs.edits.edits_lead_on.Goals as goal

pub returns : goal.returns
returns c = record { tree = tree_leads_on; templates = template_leads_on; attributes = attribute_leads_on }
