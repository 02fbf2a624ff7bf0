use Rattle.report_laws.proofs.ListCauses.{lists_are_uncaused}
use Rattle.report_laws.proofs.Lists.{rows_are_worlds}
use Rattle.report_laws.proofs.rows_are_the_worlds.Goals as goal

pub returns : goal.returns
returns c = record { rows = rows_are_worlds; uncaused = lists_are_uncaused }
