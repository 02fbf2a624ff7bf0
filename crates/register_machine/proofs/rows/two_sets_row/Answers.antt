use Rattle.register_machine.proofs.RowProofs.{two_sets_row}
use Rattle.register_machine.proofs.rows.two_sets_row.Goals as goal

pub returns : goal.returns
returns c = two_sets_row
