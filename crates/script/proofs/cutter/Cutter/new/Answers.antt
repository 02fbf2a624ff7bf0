use Rattle.script.proofs.Going.{fresh}
use Rattle.script.proofs.cutter.Cutter.new.Goals as goal

pub returns-clause-stands : goal.returns-clause-stands
returns-clause-stands c = fresh
