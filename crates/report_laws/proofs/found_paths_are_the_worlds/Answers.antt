use Rattle.report_laws.proofs.Finds.{found_are_worlds}
use Rattle.report_laws.proofs.found_paths_are_the_worlds.Goals as goal

pub returns : goal.returns
returns c = found_are_worlds
