use Rattle.std.proofs.Common.{List, subst}
use Rattle.asm_base.specs.Records.{DirectoryRecord}
use Rattle.catalog.specs.catalog_tables.Faults.{IsAtFault, NamesFault}
use Rattle.group_recovery.proofs.Quorums.{catalog_refused}
use Rattle.group_recovery.proofs.quorum.catalog_of.Goals as goal

pub returns-in-Err-clause-cause : goal.returns-in-Err-clause-cause
returns-in-Err-clause-cause c =
    catalog_refused c.args.store.now c.args.status.now c.args.shape c.in-Err.error c.refusal_of_catalog.result
    (subst (λ (l : List DirectoryRecord). NamesFault (IsAtFault l c.args.shape c.args.status.now.entries) c.in-Err.error) c.content.ensures c.in-Err.ensures.fault) c.refusal_of_catalog.ensures
