use Rattle.register_machine.proofs.RowProofs.{one_holder_row}
use Rattle.register_machine.proofs.rows.one_holder_row.Goals as goal

pub returns : goal.returns
returns c = one_holder_row
