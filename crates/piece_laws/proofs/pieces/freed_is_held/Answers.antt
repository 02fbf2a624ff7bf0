use Rattle.piece_laws.proofs.Writing.{freed_is_held}
use Rattle.piece_laws.proofs.pieces.freed_is_held.Goals as goal

pub returns : goal.returns
returns c = freed_is_held
