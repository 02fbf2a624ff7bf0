use Rattle.group_engine.proofs.Surplus.{surplus_is_held}
use Rattle.group_engine.proofs.byte_laws.surplus_is_held.Goals as goal

pub returns : goal.returns
returns c = surplus_is_held
