use Rattle.std.proofs.Common.{subst}
use Rattle.rebalance.specs.catalog.ExtentPlans.{MayCut, with_cut}
use Rattle.rebalance.specs.catalog.Plans.{IsPlan}
use Rattle.rebalance.specs.catalog_tables.Tables.{Catalogued}
use Rattle.group_engine.proofs.Cuts.{cut_surplus}
use Rattle.group_engine.proofs.Endings.{ends_begin, ends_planned, ends_without}
use Rattle.group_engine.proofs.mounted.Mounted.cut_chunk.Goals as goal

pub returns-in-Ok : goal.returns-in-Ok
returns-in-Ok g c =
    let m = c.args.self.now in
    let f = c.args.file in
    let n = c.args.chunk in
    let from = c.in-Some.from in
    let put = c.in-Ok.change.put in
    let gone = c.in-Ok.change.gone in
    let may : MayCut m.catalog.shape m.catalog.tables f n from = subst (λ (v : Catalogued). MayCut v.shape v.tables f n from) c.catalog.ensures c.in-Some.ensures in
    let plan = subst (λ (v : Catalogued). IsPlan v put gone (with_cut v.tables f n from)) c.catalog-3.ensures c.in-Ok.ensures.planned in
    ends_planned m c.commit_plan.new.self put gone (with_cut m.catalog.tables f n from) (g.B.Bay.state c.args.bay.now) (g.B.Bay.state c.commit_plan.new.bay)
    (cut_surplus m.register.value.entries m.catalog put gone f n from c.requires.whole.are_tables may plan) c.commit_plan.result c.requires.mounted c.commit_plan.ensures.goes c.commit_plan.ensures.commits

pub returns-in_default : goal.returns-in_default
returns-in_default g c = ends_begin c.args.self.now (g.B.Bay.state c.args.bay.now) c.requires.mounted c.requires.whole c.requires.ready

pub returns-then-is_cut : goal.returns-then-is_cut
returns-then-is_cut g c = ends_begin c.args.self.now (g.B.Bay.state c.args.bay.now) c.requires.mounted c.requires.whole c.requires.ready

pub returns : goal.returns
returns g c = ends_without c.args.self.now (g.B.Bay.state c.args.bay.now) c.requires.whole c.requires.ready
