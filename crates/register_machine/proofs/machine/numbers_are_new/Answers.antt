use Rattle.register_machine.proofs.Running.{epochs_are_seen, numbers_rise}
use Rattle.register_machine.proofs.machine.numbers_are_new.Goals as goal

pub returns-clause-numbers : goal.returns-clause-numbers
returns-clause-numbers c = numbers_rise

pub returns-clause-epochs : goal.returns-clause-epochs
returns-clause-epochs c = epochs_are_seen
