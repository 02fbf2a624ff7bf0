use Rattle.piece_laws.proofs.Writing.{writing_frees}
use Rattle.piece_laws.proofs.pieces.writing_frees.Goals as goal

pub returns : goal.returns
returns c = writing_frees
