use Rattle.status_register.proofs.RowFits.{row_fits}
use Rattle.status_register.proofs.laws.stored_claims_fit.Goals as goal

pub returns : goal.returns
returns c = λ slots id completed begun claim ms x y allowed inside long row fits. row_fits slots id claim allowed ms inside completed begun x y long row fits
