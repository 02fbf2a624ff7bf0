use Rattle.std.proofs.Common.{subst}
use Rattle.resync.specs.catalog.Plans.{IsPlan}
use Rattle.resync.specs.catalog_tables.Tables.{Catalogued, Tables}
use Rattle.resync.proofs.group_engine.Endings.{goes_without}
use Rattle.relocation.specs.Shortfalls.{without_rebalance}
use Rattle.relocation.proofs.Shortfalls.{active_ended}
use Rattle.relocation.proofs.ending.end_active.Goals as goal

pub commit_plan-requires-clause-plan : goal.commit_plan-requires-clause-plan
commit_plan-requires-clause-plan g c = subst (λ (v : Catalogued). (u : Tables) × IsPlan v c.in-Ok.change.put c.in-Ok.change.gone u) c.catalog.ensures (_, c.in-Ok.ensures.planned)

pub returns-in-Ok-clause-goes : goal.returns-in-Ok-clause-goes
returns-in-Ok-clause-goes g c = c.commit_plan.ensures.goes

pub returns-in-Ok-clause-ended : goal.returns-in-Ok-clause-ended
returns-in-Ok-clause-ended g c =
    let plan = subst (λ (v : Catalogued). IsPlan v c.in-Ok.change.put c.in-Ok.change.gone (without_rebalance v.tables)) c.catalog.ensures c.in-Ok.ensures.planned in
    active_ended c.commit_plan.result c.args.m.now c.commit_plan.new.self c.in-Ok.change.put c.in-Ok.change.gone c.commit_plan.ensures.goes.keeps.same.shape c.commit_plan.ensures.commits.applied plan.after
    c.commit_plan.ensures.status

pub returns-clause-goes : goal.returns-clause-goes
returns-clause-goes g c = let t = c.requires.takes c.requires.mounted in goes_without c.args.m.now (g.B.Bay.state c.args.bay.now) t.0 t.1
