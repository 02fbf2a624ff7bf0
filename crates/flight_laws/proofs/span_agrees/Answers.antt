use Rattle.flight_laws.proofs.Following.{settled_agrees, settled_agrees_beside, span_agrees}
use Rattle.flight_laws.proofs.span_agrees.Goals as goal

pub returns : goal.returns
returns c = record { writing = span_agrees; settled = settled_agrees; beside = settled_agrees_beside }
