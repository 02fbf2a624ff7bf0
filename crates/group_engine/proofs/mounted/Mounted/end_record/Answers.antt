use Rattle.std.proofs.Common.{sym, subst, ◌∙◌}
use Rattle.rebalance.specs.catalog.Plans.{AreOwned, IsPlan}
use Rattle.rebalance.specs.catalog_tables.Tables.{Catalogued}
use Rattle.group_engine.specs.Pending.{without_pending}
use Rattle.group_engine.proofs.Cuts.{operation_surplus}
use Rattle.group_engine.proofs.Endings.{ended_if, ends_planned, ends_without, on_true}
use Rattle.group_engine.proofs.mounted.Mounted.end_record.Goals as goal

pub returns-then-not-may_end-clause-ends : goal.returns-then-not-may_end-clause-ends
returns-then-not-may_end-clause-ends g c = ends_without c.args.self.now (g.B.Bay.state c.args.bay.now) c.requires.whole c.requires.ready

pub commit_plan-requires-clause-plan : goal.commit_plan-requires-clause-plan
commit_plan-requires-clause-plan g c =
    let owned = subst (λ (v : Catalogued). AreOwned (without_pending v.tables)) (c.catalog.ensures ∙ sym c.catalog-2.ensures) (on_true c.may_end.result c.may_end.ensures c.if-not-may_end.false) in
    let plan = subst (λ (v : Catalogued). IsPlan v c.in-Ok.change.put c.in-Ok.change.gone (without_pending v.tables)) c.catalog-2.ensures (c.in-Ok.ensures.planned owned) in
    (without_pending c.args.self.now.catalog.tables, plan)

pub returns-in-Ok-clause-ended : goal.returns-in-Ok-clause-ended
returns-in-Ok-clause-ended g c =
    let owned = subst (λ (v : Catalogued). AreOwned (without_pending v.tables)) (c.catalog.ensures ∙ sym c.catalog-2.ensures) (on_true c.may_end.result c.may_end.ensures c.if-not-may_end.false) in
    let plan = subst (λ (v : Catalogued). IsPlan v c.in-Ok.change.put c.in-Ok.change.gone (without_pending v.tables)) c.catalog-2.ensures (c.in-Ok.ensures.planned owned) in
    ended_if c.commit_plan.result c.args.self.now.catalog.tables c.commit_plan.new.self.catalog.tables c.in-Ok.change.put c.in-Ok.change.gone c.commit_plan.ensures.commits.applied plan.after

pub returns-in-Ok-clause-ends : goal.returns-in-Ok-clause-ends
returns-in-Ok-clause-ends g c =
    let m = c.args.self.now in
    let put = c.in-Ok.change.put in
    let gone = c.in-Ok.change.gone in
    let owned = subst (λ (v : Catalogued). AreOwned (without_pending v.tables)) (c.catalog.ensures ∙ sym c.catalog-2.ensures) (on_true c.may_end.result c.may_end.ensures c.if-not-may_end.false) in
    let plan = subst (λ (v : Catalogued). IsPlan v put gone (without_pending v.tables)) c.catalog-2.ensures (c.in-Ok.ensures.planned owned) in
    ends_planned m c.commit_plan.new.self put gone (without_pending m.catalog.tables) (g.B.Bay.state c.args.bay.now) (g.B.Bay.state c.commit_plan.new.bay)
    (operation_surplus m.register.value.entries m.catalog put gone (without_pending m.catalog.tables).operations plan) c.commit_plan.result c.requires.mounted c.commit_plan.ensures.goes c.commit_plan.ensures.commits

pub returns-clause-ends : goal.returns-clause-ends
returns-clause-ends g c = ends_without c.args.self.now (g.B.Bay.state c.args.bay.now) c.requires.whole c.requires.ready
