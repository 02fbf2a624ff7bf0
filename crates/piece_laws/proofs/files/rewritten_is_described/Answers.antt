use Rattle.piece_laws.proofs.Rewriting.{rewritten_is_described}
use Rattle.piece_laws.proofs.files.rewritten_is_described.Goals as goal

pub returns : goal.returns
returns c = rewritten_is_described
