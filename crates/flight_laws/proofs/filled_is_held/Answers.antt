use Rattle.flight_laws.proofs.Filling.{append_is_surplus, filled_is_held}
use Rattle.flight_laws.proofs.filled_is_held.Goals as goal

pub returns : goal.returns
returns c = record { held = filled_is_held; surplus = append_is_surplus }
