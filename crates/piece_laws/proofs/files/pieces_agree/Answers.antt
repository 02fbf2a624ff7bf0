use Rattle.piece_laws.proofs.FileSpans.{pieces_agree}
use Rattle.piece_laws.proofs.files.pieces_agree.Goals as goal

pub returns : goal.returns
returns c = pieces_agree
