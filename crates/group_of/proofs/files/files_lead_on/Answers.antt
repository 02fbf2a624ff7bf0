use Rattle.group_of.proofs.Leading.{new_name_leads_on, removal_leads_on, size_leads_on}
use Rattle.group_of.proofs.files.files_lead_on.Goals as goal

pub returns : goal.returns
returns c = record { removal = removal_leads_on; size = size_leads_on; name = new_name_leads_on }
