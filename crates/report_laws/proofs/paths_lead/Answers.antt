use Rattle.report_laws.proofs.VerbPaths.{paths_lead}
use Rattle.report_laws.proofs.paths_lead.Goals as goal

pub returns : goal.returns
returns c = paths_lead
