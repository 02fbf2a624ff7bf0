use Rattle.std.proofs.Common.{refl}
use Rattle.mode_laws.proofs.modes_are_left_by_events.Goals as goal

pub returns : goal.returns
returns c = λ since repair. record { online = refl; offline = refl; syncing = refl; dropping = refl; forced = refl }
