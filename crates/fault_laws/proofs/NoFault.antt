-- No record of a content that describes a group is at fault.
use Rattle.std.proofs.Common.{sym, subst}
use Rattle.asm_group.specs.Shape.{Shape}
use Rattle.catalog_tables.specs.Faults.{IsAtFault}
use Rattle.catalog_laws.proofs.NoCatalog.{fault_refuses}
use Rattle.fault_laws.specs.Faults.{DescribedIsNoFault}
use Rattle.fault_laws.proofs.Catalogs.{have_catalog}

pub no_fault : DescribedIsNoFault
no_fault r content g k ok i at_fault =
    let c = have_catalog r content g ok i in
    fault_refuses content r.entries c.catalog k (subst (λ (s : Shape). IsAtFault content s r.entries k) (sym c.shape_is) at_fault) c.is
