use Rattle.std.proofs.Common.{◌≡◌, false, true, sym, subst, ◌∙◌}
use Rattle.std.proofs.lemmas.Result.{err_from_is_err_and}
use Rattle.asm_formats.specs.Status.{Status}
use Rattle.group_recovery.specs.catalog.Plans.{IsPlan}
use Rattle.group_recovery.specs.catalog_tables.Tables.{Catalogued, Tables}
use Rattle.group_engine.proofs.Endings.{ends_begin, ends_planned}
use Rattle.mounted_groups.specs.Clearing.{is_left_over}
use Rattle.mounted_groups.proofs.LeftOver.{drop_surplus, dropped_if, ends_refused, left_gone, left_none, without_record}
use Rattle.mounted_groups.proofs.clearing.drop_record.Goals as goal

pub returns-then-not-is_left_over-clause-ends : goal.returns-then-not-is_left_over-clause-ends
returns-then-not-is_left_over-clause-ends g c =
    let both = c.requires.takes c.requires.mounted in
    ends_begin c.args.m.now (g.B.Bay.state c.args.bay.now) c.requires.mounted both.0 both.1

pub returns-in_err-change-clause-ends : goal.returns-in_err-change-clause-ends
returns-in_err-change-clause-ends g c =
    let both = c.requires.takes c.requires.mounted in
    let p = err_from_is_err_and c.from_residual.result c.from_residual.ensures.1 in
    rw (p.1, p.2) (ends_refused c.args.m.now (g.B.Bay.state c.args.bay.now) _ _ _ both.0 both.1 c.in_err-change.ensures.refused)

pub commit_plan-requires-clause-plan : goal.commit_plan-requires-clause-plan
commit_plan-requires-clause-plan g c = subst (λ (v : Catalogued). (u : Tables) × IsPlan v c.in_ok-change.change.put c.in_ok-change.change.gone u) c.catalog-2.ensures (_, c.in_ok-change.ensures.planned)

pub returns-clause-ends : goal.returns-clause-ends
returns-clause-ends g c =
    let m = c.args.m.now in
    let d = c.args.number in
    let put = c.in_ok-change.change.put in
    let gone = c.in_ok-change.change.gone in
    let left : is_left_over m.register.value.entries m.catalog.tables.disks d ≡ true =
    subst (λ (r : Status). is_left_over r.entries m.catalog.tables.disks d ≡ true) c.status.ensures (subst (λ (v : Catalogued). is_left_over c.status.result.now.entries v.tables.disks d ≡ true) c.catalog.ensures
    (sym c.is_left_over.ensures ∙ c.if-not-is_left_over.false)) in
    let plan = subst (λ (v : Catalogued). IsPlan v put gone (without_record v.tables d)) c.catalog-2.ensures c.in_ok-change.ensures.planned in
    ends_planned m c.commit_plan.new.self put gone (without_record m.catalog.tables d) (g.B.Bay.state c.args.bay.now) (g.B.Bay.state c.commit_plan.new.bay)
    (drop_surplus m.register.value.entries m.catalog put gone d left plan) c.commit_plan.result c.requires.mounted c.commit_plan.ensures.goes c.commit_plan.ensures.commits

pub returns-then-not-is_left_over-clause-dropped : goal.returns-then-not-is_left_over-clause-dropped
returns-then-not-is_left_over-clause-dropped g c =
    let m = c.args.m.now in
    let d = c.args.number in
    let none : is_left_over m.register.value.entries m.catalog.tables.disks d ≡ false =
    subst (λ (r : Status). is_left_over r.entries m.catalog.tables.disks d ≡ false) c.status.ensures (subst (λ (v : Catalogued). is_left_over c.status.result.now.entries v.tables.disks d ≡ false) c.catalog.ensures
    (sym c.is_left_over.ensures ∙ c.if-not-is_left_over.true)) in
    left_none m.register.value.entries m.catalog.tables d none

pub returns-clause-dropped : goal.returns-clause-dropped
returns-clause-dropped g c =
    let m = c.args.m.now in
    let d = c.args.number in
    let put = c.in_ok-change.change.put in
    let gone = c.in_ok-change.change.gone in
    let left : is_left_over m.register.value.entries m.catalog.tables.disks d ≡ true =
    subst (λ (r : Status). is_left_over r.entries m.catalog.tables.disks d ≡ true) c.status.ensures (subst (λ (v : Catalogued). is_left_over c.status.result.now.entries v.tables.disks d ≡ true) c.catalog.ensures
    (sym c.is_left_over.ensures ∙ c.if-not-is_left_over.false)) in
    let plan = subst (λ (v : Catalogued). IsPlan v put gone (without_record v.tables d)) c.catalog-2.ensures c.in_ok-change.ensures.planned in
    dropped_if c.commit_plan.result m.catalog.tables c.commit_plan.new.self.catalog.tables (without_record m.catalog.tables d) put gone _ c.commit_plan.ensures.commits.applied plan.after (left_gone m.register.value.entries m.catalog.tables d left)
