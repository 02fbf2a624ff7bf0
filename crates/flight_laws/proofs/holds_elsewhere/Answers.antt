use Rattle.flight_laws.proofs.Elsewhere.{holds_elsewhere, agrees_elsewhere}
use Rattle.flight_laws.proofs.holds_elsewhere.Goals as goal

pub returns : goal.returns
returns c = record { holds = holds_elsewhere; agrees = agrees_elsewhere }
