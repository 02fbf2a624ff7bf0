use Rattle.piece_laws.proofs.Walks.{freed_forgets}
use Rattle.piece_laws.proofs.files.freed_forgets.Goals as goal

pub returns : goal.returns
returns c = freed_forgets
