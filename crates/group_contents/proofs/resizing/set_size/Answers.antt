use Rattle.std.proofs.Common.{refl, subst, true, ◌≡◌}
use Rattle.file_extents.specs.catalog.FilePlans.{IsSizePlan}
use Rattle.file_extents.specs.catalog_tables.Tables.{Catalogued}
use Rattle.file_extents.proofs.group_engine.Endings.{on_true}
use Rattle.file_extents.proofs.Chains.{goes_short, kept}
use Rattle.group_contents.proofs.Steps.{size_plan, sizes}
use Rattle.group_contents.proofs.resizing.set_size.Goals as goal
use Rattle.file_extents.specs.catalog.FilePlans.{is_on_file}

pub returns-then-not-may_size-clause-goes : goal.returns-then-not-may_size-clause-goes
returns-then-not-may_size-clause-goes g c = goes_short (kept c.args.m.now (g.B.Bay.state c.args.bay.now) c.requires.takes)

pub commit_plan-requires-clause-plan : goal.commit_plan-requires-clause-plan
commit_plan-requires-clause-plan g c =
    size_plan c.args.m.now.catalog c.args.file c.args.size c.in-Ok.change.put c.in-Ok.change.gone
    (subst (λ (k : Catalogued). IsSizePlan k c.args.file c.args.size c.in-Ok.change.put c.in-Ok.change.gone) c.catalog-2.ensures c.in-Ok.ensures.planned)
    (subst (λ (k : Catalogued). is_on_file k.tables.files k.tables.operations.pending ≡ true) c.catalog.ensures
    (on_true c.may_size.result c.may_size.ensures.on c.if-not-may_size.false))

pub returns-in-Ok-clause-sized : goal.returns-in-Ok-clause-sized
returns-in-Ok-clause-sized g c =
    sizes c.args.m.now c.args.m.now.catalog c.args.file c.args.size c.in-Ok.change.put c.in-Ok.change.gone c.commit_plan.result c.commit_plan.new.self refl
    (subst (λ (k : Catalogued). IsSizePlan k c.args.file c.args.size c.in-Ok.change.put c.in-Ok.change.gone) c.catalog-2.ensures c.in-Ok.ensures.planned)
    c.commit_plan.ensures.commits.applied

pub returns-clause-goes : goal.returns-clause-goes
returns-clause-goes g c = goes_short (kept c.args.m.now (g.B.Bay.state c.args.bay.now) c.requires.takes)
