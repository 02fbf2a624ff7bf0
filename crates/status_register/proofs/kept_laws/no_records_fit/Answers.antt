use Rattle.status_register.proofs.Elsewhere.{no_records_fit}
use Rattle.status_register.proofs.kept_laws.no_records_fit.Goals as goal

pub returns : goal.returns
returns c = λ slots id ms image distinct none are. no_records_fit slots id ms image distinct none are
