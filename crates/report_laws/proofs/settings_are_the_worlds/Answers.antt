use Rattle.report_laws.proofs.Rows.{attributes_are_worlds, templates_are_worlds}
use Rattle.report_laws.proofs.settings_are_the_worlds.Goals as goal

pub returns : goal.returns
returns c = record { attributes = attributes_are_worlds; templates = templates_are_worlds }
