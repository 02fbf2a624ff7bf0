use Rattle.catalog_laws.proofs.NoCatalog.{fault_refuses}
use Rattle.catalog_laws.proofs.laws.a_fault_leaves_no_catalog.Goals as goal

pub returns : goal.returns
returns c = λ content es d k at is. fault_refuses content es d k at is
