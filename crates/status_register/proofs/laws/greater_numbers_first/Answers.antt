use Rattle.status_register.proofs.Ordering.{greater_numbers_first}
use Rattle.status_register.proofs.laws.greater_numbers_first.Goals as goal

pub returns : goal.returns
returns c = greater_numbers_first
