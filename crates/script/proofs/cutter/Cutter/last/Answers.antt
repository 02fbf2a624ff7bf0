use Rattle.script.proofs.Going.{last-found, open-found}
use Rattle.script.proofs.cutter.Cutter.last.Goals as goal

pub returns-in-Found-clause-found : goal.returns-in-Found-clause-found
returns-in-Found-clause-found c = last-found _ _ _ c.in-Found.ensures

pub returns-in-Open-clause-found : goal.returns-in-Open-clause-found
returns-in-Open-clause-found c = open-found _ _ _ c.rest_of.result c.in-Open.ensures.2 c.rest_of.ensures.within c.rest_of.ensures.found
