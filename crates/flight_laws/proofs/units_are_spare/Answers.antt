use Rattle.flight_laws.proofs.Spare.{free_units_are_spare, no_home_none_known, stale_copy_is_spare}
use Rattle.flight_laws.proofs.units_are_spare.Goals as goal

pub returns : goal.returns
returns c = record { free = free_units_are_spare; none = no_home_none_known; stale = stale_copy_is_spare }
