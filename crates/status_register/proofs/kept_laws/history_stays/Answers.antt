use Rattle.status_register.proofs.Elsewhere.{history_stays}
use Rattle.status_register.proofs.kept_laws.history_stays.Goals as goal

pub returns : goal.returns
returns c = λ slots register completed begun x y leaves has. history_stays slots register completed begun x y leaves has
