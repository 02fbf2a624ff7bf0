use Rattle.script.proofs.Going.{gapless}
use Rattle.script.proofs.cutter.Cutter.without_gap.Goals as goal

pub returns-clause-stands : goal.returns-clause-stands
returns-clause-stands c = λ bytes s. gapless _ _ bytes _ _ _ c.opening.ensures s
