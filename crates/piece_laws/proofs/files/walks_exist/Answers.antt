use Rattle.piece_laws.proofs.FileSpans.{walks_exist}
use Rattle.piece_laws.proofs.files.walks_exist.Goals as goal

pub returns : goal.returns
returns c = walks_exist
