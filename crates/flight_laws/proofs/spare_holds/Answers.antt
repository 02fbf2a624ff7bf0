use Rattle.flight_laws.proofs.Elsewhere.{spare_agrees, spare_holds}
use Rattle.flight_laws.proofs.spare_holds.Goals as goal

pub returns : goal.returns
returns c = record { holds = spare_holds; agrees = spare_agrees }
