use Rattle.piece_laws.proofs.Walks.{freed_is_free}
use Rattle.piece_laws.proofs.files.freed_is_free.Goals as goal

pub returns : goal.returns
returns c = freed_is_free
