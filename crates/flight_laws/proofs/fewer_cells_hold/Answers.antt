use Rattle.flight_laws.proofs.Following.{fewer_cells_agree, fewer_cells_hold, freed_knows_less}
use Rattle.flight_laws.proofs.fewer_cells_hold.Goals as goal

pub returns : goal.returns
returns c = record { freed = freed_knows_less; holds = fewer_cells_hold; agrees = fewer_cells_agree }
