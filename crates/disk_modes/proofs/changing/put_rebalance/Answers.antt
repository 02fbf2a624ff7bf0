use Rattle.std.proofs.Common.{subst}
use Rattle.group_reports.specs.catalog.Plans.{IsPlan}
use Rattle.group_reports.specs.catalog_tables.Tables.{Catalogued, Tables}
use Rattle.refusal_lines.specs.declared.refusal.Refusal.TheVariants as cause
use Rattle.disk_modes.proofs.Effects.{rebalance_put}
use Rattle.disk_modes.proofs.Held.{rebalance_held, rebalance_short}
use Rattle.disk_modes.proofs.Steps.{goes_short, kept}
use Rattle.disk_modes.proofs.changing.put_rebalance.Goals as goal

pub commit_plan-requires-clause-plan : goal.commit_plan-requires-clause-plan
commit_plan-requires-clause-plan g c = subst (λ (k : Catalogued). (u : Tables) × IsPlan k c.in-Ok.change.put c.in-Ok.change.gone u) c.catalog.ensures (_, c.in-Ok.ensures.planned)

pub returns-in-Ok-clause-done : goal.returns-in-Ok-clause-done
returns-in-Ok-clause-done g c =
    rebalance_put c.args.power c.args.m.now c.commit_plan.new.self c.catalog.result.now c.in-Ok.change.put c.in-Ok.change.gone c.commit_plan.result
    c.catalog.ensures c.in-Ok.ensures.planned c.commit_plan.ensures.commits.applied c.commit_plan.ensures.status

pub returns-clause-goes : goal.returns-clause-goes
returns-clause-goes g c = goes_short (kept c.args.m.now (g.B.Bay.state c.args.bay.now) c.requires.takes)

pub returns-in-Ok-clause-commits : goal.returns-in-Ok-clause-commits
returns-in-Ok-clause-commits g c =
    rebalance_held c.args.power c.args.m.now c.commit_plan.new.self c.catalog.result.now c.in-Ok.change.put c.in-Ok.change.gone (g.B.Bay.state c.args.bay.now) (g.B.Bay.state c.commit_plan.new.bay) c.commit_plan.result
    c.requires.mounted c.catalog.ensures c.in-Ok.ensures.planned c.commit_plan.ensures.goes c.commit_plan.ensures.commits

pub returns-clause-commits : goal.returns-clause-commits
returns-clause-commits g c = rebalance_short c.args.m.now (g.B.Bay.state c.args.bay.now) cause.NoMemory
