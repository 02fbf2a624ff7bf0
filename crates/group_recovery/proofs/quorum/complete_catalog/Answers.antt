use Rattle.std.proofs.Common.{inr, subst}
use Rattle.asm_formats.specs.Status.{Status}
use Rattle.group_recovery.specs.Missing.{first_missing}
use Rattle.group_recovery.specs.Quorum.{IsCatalogIn, IsMissingRefusal}
use Rattle.group_recovery.proofs.quorum.complete_catalog.Goals as goal

pub returns-in-Err-clause-cause : goal.returns-in-Err-clause-cause
returns-in-Err-clause-cause c =
    let catalog = c.in_ok-catalog.catalog in
    let read = c.args.read.now in
    inr (
      catalog,
      subst (λ (x : Status). IsCatalogIn read.store x read.shape catalog) c.value-status.ensures c.in_ok-catalog.ensures.catalog,
      subst (λ (x : Status). IsMissingRefusal c.args.option catalog.tables (first_missing c.args.id c.args.headed.now x.entries) c.in-Err.error) c.value-status.ensures c.in-Err.ensures.cause,
    )
