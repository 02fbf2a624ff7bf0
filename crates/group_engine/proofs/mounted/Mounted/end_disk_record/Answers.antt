use Rattle.std.proofs.Common.{None, subst}
use Rattle.rebalance.specs.catalog.Plans.{IsPlan, with_disk_record}
use Rattle.rebalance.specs.catalog_tables.Tables.{Catalogued}
use Rattle.group_engine.proofs.Endings.{goes_without}
use Rattle.group_engine.proofs.mounted.Mounted.end_disk_record.Goals as goal

pub commit_plan-requires-clause-plan : goal.commit_plan-requires-clause-plan
commit_plan-requires-clause-plan g c =
    let t = c.args.self.now.catalog.tables in
    let plan = subst (λ (v : Catalogued). IsPlan v c.in-Ok.change.put c.in-Ok.change.gone (record v.tables { disks = with_disk_record v.tables.disks c.args.disk None })) c.catalog.ensures c.in-Ok.ensures.planned in
    (record t { disks = with_disk_record t.disks c.args.disk None }, plan)

pub returns : goal.returns
returns g c = goes_without c.args.self.now (g.B.Bay.state c.args.bay.now) c.requires.whole c.requires.ready
