use Rattle.piece_laws.proofs.Reading.{fewer_current_hold}
use Rattle.piece_laws.proofs.pieces.fewer_current_hold.Goals as goal

pub returns : goal.returns
returns c = fewer_current_hold
