use Rattle.report_laws.proofs.Places.{directories_are_worlds, no_directories_are_worlds}
use Rattle.report_laws.proofs.directories_are_the_worlds.Goals as goal

pub returns : goal.returns
returns c = record { directory = directories_are_worlds; none = no_directories_are_worlds }
