use Rattle.status_register.proofs.Reaching.{same_sets_reach}
use Rattle.status_register.proofs.kept_laws.same_sets_reach.Goals as goal

pub returns : goal.returns
returns c = λ places r s same reached. same_sets_reach places r s same reached
