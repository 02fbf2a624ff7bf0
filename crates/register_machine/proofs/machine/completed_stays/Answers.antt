use Rattle.register_machine.proofs.Running.{completed_is_found, completed_is_held, last_is_greatest, never_undone}
use Rattle.register_machine.proofs.machine.completed_stays.Goals as goal

pub returns-clause-never_undone : goal.returns-clause-never_undone
returns-clause-never_undone c = never_undone

pub returns-clause-held : goal.returns-clause-held
returns-clause-held c = completed_is_held

pub returns-clause-greatest : goal.returns-clause-greatest
returns-clause-greatest c = last_is_greatest

pub returns-clause-found : goal.returns-clause-found
returns-clause-found c = completed_is_found
