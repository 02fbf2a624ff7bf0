use Rattle.std.proofs.Common.{inl, inr, subst, ◌⊎◌}
use Rattle.asm_group.specs.TreeEdits as e
use Rattle.refusal_lines.specs.declared.refusal.Refusal.{Refusal}
use Rattle.file_extents.specs.catalog.Plans.{IsPlan}
use Rattle.file_extents.specs.catalog_tables.Tables.{Catalogued, Tables}
use Rattle.file_extents.specs.catalog.TreePlans.{IsTreePlan, IsTreeRefusal}
use Rattle.file_extents.specs.group_engine.Commits.{StatusCause}
use Rattle.file_extents.proofs.Chains.{kept}
use Rattle.group_contents.proofs.Steps.{drops, on_err}
use Rattle.group_contents.proofs.removing.remove_directory.Goals as goal

pub commit_plan-requires-clause-plan : goal.commit_plan-requires-clause-plan
commit_plan-requires-clause-plan g c =
    subst (λ (k : Catalogued). (u : Tables) × IsPlan k c.in-Ok.change.put c.in-Ok.change.gone u) c.catalog.ensures (_, c.in-Ok.ensures.planned.plan)

pub returns-in-Ok-clause-cause : goal.returns-in-Ok-clause-cause
returns-in-Ok-clause-cause g c =
    let m = c.args.m.now in
    let s = g.B.Bay.state c.args.bay.now in
    let t = g.B.Bay.state c.commit_plan.new.bay in
    on_err (StatusCause m c.commit_plan.new.self s t)
    (λ (refusal : Refusal). IsTreeRefusal m.catalog (e.DropDir c.args.path.now.parts) refusal ⊎ StatusCause m c.commit_plan.new.self s t refusal)
    c.commit_plan.result (λ refusal why. inr why) c.commit_plan.ensures.goes.cause

pub returns-in-Ok-clause-dropped : goal.returns-in-Ok-clause-dropped
returns-in-Ok-clause-dropped g c =
    drops c.args.m.now c.args.path.now.parts c.in-Ok.change.put c.in-Ok.change.gone c.commit_plan.result c.commit_plan.new.self
    (subst (λ (k : Catalogued). IsTreePlan k (e.DropDir c.args.path.now.parts) c.in-Ok.change.put c.in-Ok.change.gone) c.catalog.ensures c.in-Ok.ensures.planned)
    c.commit_plan.ensures.commits.applied

pub returns-in-Err-clause-keeps : goal.returns-in-Err-clause-keeps
returns-in-Err-clause-keeps g c = kept c.args.m.now (g.B.Bay.state c.args.bay.now) c.requires.takes

pub returns-in-Err-clause-cause : goal.returns-in-Err-clause-cause
returns-in-Err-clause-cause g c = inl (subst (λ (k : Catalogued). IsTreeRefusal k (e.DropDir c.args.path.now.parts) c.in-Err.refusal) c.catalog.ensures c.in-Err.ensures.refused)
