use Rattle.std.proofs.Common.{◌∙◌, arith}
use Rattle.disk_header.proofs.Laws.{right_is_header}
use Rattle.disk_header.proofs.reading.is_header.Goals as goal

pub returns : goal.returns
returns c = c.is_right.ensures ∙ right_is_header c.header.view_is (omega arith) (omega arith)
