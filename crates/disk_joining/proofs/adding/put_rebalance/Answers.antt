use Rattle.std.proofs.Common.{subst}
use Rattle.file_extents.specs.catalog.Plans.{IsPlan}
use Rattle.file_extents.specs.catalog_tables.Tables.{Catalogued, Tables}
use Rattle.disk_joining.proofs.Takings.{nothing_goes}
use Rattle.disk_joining.proofs.adding.put_rebalance.Goals as goal

pub commit_plan-requires-clause-plan : goal.commit_plan-requires-clause-plan
commit_plan-requires-clause-plan g c = subst (λ (v : Catalogued). (u : Tables) × IsPlan v c.in-Ok.change.put c.in-Ok.change.gone u) c.catalog.ensures (_, c.in-Ok.ensures.planned)

pub returns : goal.returns
returns g c = record { goes = nothing_goes c.args.m.now (g.B.Bay.state c.args.bay.now) c.requires.takes }
