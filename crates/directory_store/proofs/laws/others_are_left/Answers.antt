use Rattle.directory_store.proofs.Storing.{is_left, left_is}
use Rattle.directory_store.proofs.laws.others_are_left.Goals as goal

pub returns : goal.returns
returns c = λ failed copies d. ((λ among. left_is failed copies d among), (λ both. is_left failed copies d both.0 both.1))
