use Rattle.std.proofs.Common.{◌≡◌, ◌∙◌, refl, subst, sym}
use Rattle.file_extents.specs.catalog.NamePlans.{IsFileBeingMade, IsNamePlan, made_file}
use Rattle.file_extents.specs.catalog_tables.Tables.{Catalogued}
use Rattle.file_extents.proofs.group_engine.Endings.{on_true}
use Rattle.file_extents.proofs.Chains.{goes_short, kept}
use Rattle.group_contents.proofs.Steps.{names}
use Rattle.group_contents.proofs.creating.name_new.Goals as goal

pub returns-then-not-is_created-clause-goes : goal.returns-then-not-is_created-clause-goes
returns-then-not-is_created-clause-goes g c = goes_short (kept c.args.m.now (g.B.Bay.state c.args.bay.now) c.requires.takes)

pub plan_name-requires : goal.plan_name-requires
plan_name-requires g c = record {
  created = subst (λ (k : Catalogued). IsFileBeingMade k c.args.new.now.size c.args.filling.now.extents.copies c.args.filling.now.stripe) (c.catalog.ensures ∙ sym c.catalog-2.ensures)
      (on_true c.is_created.result c.is_created.ensures.created c.if-not-is_created.false);
}

pub returns-in-Ok-clause-named : goal.returns-in-Ok-clause-named
returns-in-Ok-clause-named g c =
    let copies = c.args.filling.now.extents.copies in
    let stripe = c.args.filling.now.stripe in
    names c.args.m.now c.args.m.now.catalog c.args.new.now c.args.filling.now.extents.file copies stripe c.in-Ok.change.put c.in-Ok.change.gone c.commit_plan.result c.commit_plan.new.self
    refl
    (subst (λ (k : Catalogued). made_file k.tables ≡ c.args.filling.now.extents.file) c.catalog.ensures
    (on_true c.is_created.result c.is_created.ensures.file c.if-not-is_created.false))
    (subst (λ (k : Catalogued). IsNamePlan k c.args.new.now.path.parts c.args.new.now.size copies stripe c.in-Ok.change.put c.in-Ok.change.gone) c.catalog-2.ensures c.in-Ok.ensures.planned)
    c.commit_plan.ensures.commits.applied

pub returns-clause-goes : goal.returns-clause-goes
returns-clause-goes g c = goes_short (kept c.args.m.now (g.B.Bay.state c.args.bay.now) c.requires.takes)
