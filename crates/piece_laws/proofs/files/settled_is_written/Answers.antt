use Rattle.piece_laws.proofs.Walks.{settled_is_written}
use Rattle.piece_laws.proofs.files.settled_is_written.Goals as goal

pub returns : goal.returns
returns c = settled_is_written
