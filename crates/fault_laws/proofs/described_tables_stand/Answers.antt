use Rattle.fault_laws.proofs.Standing.{stand_under}
use Rattle.fault_laws.proofs.described_tables_stand.Goals as goal

pub returns : goal.returns
returns c = stand_under
