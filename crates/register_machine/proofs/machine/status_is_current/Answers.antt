use Rattle.register_machine.proofs.Running.{begun_follow_always, status_is_current, survey_is_current}
use Rattle.register_machine.proofs.machine.status_is_current.Goals as goal

pub returns-clause-survey : goal.returns-clause-survey
returns-clause-survey c = survey_is_current

pub returns-clause-status : goal.returns-clause-status
returns-clause-status c = status_is_current

pub returns-clause-follow : goal.returns-clause-follow
returns-clause-follow c = begun_follow_always
