use Rattle.flight_laws.proofs.Elsewhere.{described_homes_are_user, metadata_agrees, metadata_holds}
use Rattle.flight_laws.proofs.metadata_holds.Goals as goal

pub returns : goal.returns
returns c = record { behind = described_homes_are_user; holds = metadata_holds; agrees = metadata_agrees }
