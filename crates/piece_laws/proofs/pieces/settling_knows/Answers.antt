use Rattle.piece_laws.proofs.Settling.{settling_knows}
use Rattle.piece_laws.proofs.pieces.settling_knows.Goals as goal

pub returns : goal.returns
returns c = settling_knows
