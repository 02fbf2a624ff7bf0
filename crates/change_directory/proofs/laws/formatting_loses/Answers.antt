use Rattle.change_directory.proofs.Formats.{formatting_loses}
use Rattle.change_directory.proofs.laws.formatting_loses.Goals as goal

pub returns : goal.returns
returns c = formatting_loses
