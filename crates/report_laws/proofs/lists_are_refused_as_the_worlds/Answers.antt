use Rattle.report_laws.proofs.ListCauses.{lists_are_refused}
use Rattle.report_laws.proofs.lists_are_refused_as_the_worlds.Goals as goal

pub returns : goal.returns
returns c = lists_are_refused
