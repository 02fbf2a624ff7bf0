use Rattle.group_engine.proofs.Elsewhere.{stays_attached, stays_own}
use Rattle.group_engine.proofs.frames.stays_attached.Goals as goal

pub returns-clause-stays : goal.returns-clause-stays
returns-clause-stays g c = λ keeps. stays_attached keeps

pub returns-clause-own : goal.returns-clause-own
returns-clause-own g c = λ m stays. stays_own m stays
