use Rattle.fault_laws.proofs.Catalogs.{have_catalog}
use Rattle.fault_laws.proofs.described_records_have_a_catalog.Goals as goal

pub returns : goal.returns
returns c = have_catalog
