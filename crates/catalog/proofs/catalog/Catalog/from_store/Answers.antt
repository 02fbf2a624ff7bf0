use Rattle.std.proofs.Common.{List, subst, ◌≡◌, None}
use Rattle.asm_formats.specs.Status.{Entry}
use Rattle.plan_records.specs.catalog_tables.Faults.{BreaksRule}
use Rattle.plan_records.specs.catalog_tables.Placing.{HasUnits}
use Rattle.plan_records.specs.catalog_tables.Rules.{AreOnRegular, first_unknown}
use Rattle.catalog.proofs.StoreLaws.{broken_at, catalog_is, invariant_is}
use Rattle.catalog.proofs.catalog.Catalog.from_store.Goals as goal

pub returns-in-Some-clause-fault : goal.returns-in-Some-clause-fault
returns-in-Some-clause-fault c =
    broken_at c.args.content.now c.args.shape c.args.status.now.entries c.in-Ok.parts c.in-Some.key c.in-Ok.ensures.tables c.in-Ok.ensures.records
    (subst (λ (es : List Entry). BreaksRule c.args.shape es c.in-Ok.parts c.in-Some.key) c.entries-entries.ensures.entries c.in-Some.ensures.some)

pub invariant_of-result : goal.invariant_of-result
invariant_of-result c = record { catalog = invariant_is c.entries-entries.result.now _ (rw c.in_default.is at c.fault.ensures.rules) c.in_ok-units.ensures.units; shape = c.requires.shape; kept = tt }

pub returns-clause-catalog : goal.returns-clause-catalog
returns-clause-catalog c =
    catalog_is c.args.content.now c.args.status.now.entries _ c.in-Ok.ensures.records (rw c.in_default.is at c.fault.ensures.rules)
    (subst (λ (es : List Entry). first_unknown c.in-Ok.parts es ≡ None) c.entries-entries.ensures.entries (rw c.in_default.is at c.fault.ensures.infos))
    (subst (λ (es : List Entry). AreOnRegular es c.in-Ok.parts) c.entries-entries.ensures.entries (rw c.in_default.is at c.fault.ensures.regular))
    (subst (λ (es : List Entry). HasUnits c.args.shape es c.in-Ok.parts c.in_ok-units.units.items) c.entries-entries.ensures.entries c.in_ok-units.ensures.units)
