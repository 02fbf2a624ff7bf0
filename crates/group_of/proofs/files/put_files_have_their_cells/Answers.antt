use Rattle.group_of.proofs.NewFiles.{put_has_cells}
use Rattle.group_of.proofs.files.put_files_have_their_cells.Goals as goal

pub returns : goal.returns
returns c = put_has_cells
