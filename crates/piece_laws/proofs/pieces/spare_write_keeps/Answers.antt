use Rattle.piece_laws.proofs.SpareWriting.{spare_write_keeps}
use Rattle.piece_laws.proofs.pieces.spare_write_keeps.Goals as goal

pub returns : goal.returns
returns c = spare_write_keeps
