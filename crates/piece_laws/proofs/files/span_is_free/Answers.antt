use Rattle.piece_laws.proofs.FileSpans.{span_is_free}
use Rattle.piece_laws.proofs.files.span_is_free.Goals as goal

pub returns : goal.returns
returns c = span_is_free
