use Rattle.register_machine.proofs.RowProofs.{two_mounts_row}
use Rattle.register_machine.proofs.rows.two_mounts_row.Goals as goal

pub returns : goal.returns
returns c = two_mounts_row
