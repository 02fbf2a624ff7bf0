use Rattle.piece_laws.proofs.Reading.{reading_agrees}
use Rattle.piece_laws.proofs.pieces.reading_agrees.Goals as goal

pub returns : goal.returns
returns c = reading_agrees
