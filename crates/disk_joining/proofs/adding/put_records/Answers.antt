use Rattle.std.proofs.Common.{sym, subst}
use Rattle.file_extents.specs.catalog.Plans.{IsPlan, MayAdd}
use Rattle.file_extents.specs.catalog_tables.Tables.{Catalogued, Tables}
use Rattle.disk_joining.proofs.Takings.{nothing_goes}
use Rattle.disk_joining.proofs.adding.put_records.Goals as goal

pub commit_plan-requires-clause-plan : goal.commit_plan-requires-clause-plan
commit_plan-requires-clause-plan g c = subst (λ (v : Catalogued). (u : Tables) × IsPlan v c.in-Ok.change.put c.in-Ok.change.gone u) c.catalog.ensures (_, c.in-Ok.ensures.planned)

pub returns : goal.returns
returns g c = record { goes = nothing_goes c.args.m.now (g.B.Bay.state c.args.bay.now) c.requires.takes }

pub plan_disks-requires : goal.plan_disks-requires
plan_disks-requires g c = record { added = subst (λ (v : Catalogued). MayAdd v.tables c.args.records.now) (sym c.catalog.ensures) c.requires.records }
