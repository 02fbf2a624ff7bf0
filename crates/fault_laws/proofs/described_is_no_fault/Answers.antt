use Rattle.fault_laws.proofs.NoFault.{no_fault}
use Rattle.fault_laws.proofs.described_is_no_fault.Goals as goal

pub returns : goal.returns
returns c = no_fault
