use Rattle.group_of.proofs.NewFiles.{resized_cells_are_long, resized_has_cells}
use Rattle.group_of.proofs.files.resized_files_have_cells.Goals as goal

pub returns : goal.returns
returns c = record { cells = resized_has_cells; length = resized_cells_are_long }
