use Rattle.std.proofs.Common.{◌≡◌, true, false, List, ◌∙◌, sym, ap}
use Rattle.plan_records.specs.allocator.UnitMaps.{UnitMap}
use Rattle.plan_records.specs.catalog_tables.Placing.{changed_maps, have_units}
use Rattle.catalog.specs.Spares.{ready_tables, unit_maps_in}
use Rattle.catalog.proofs.DiskUnitLaws.{covered, made_ready, made_stays, not_same}
use Rattle.catalog.proofs.catalog.Catalog.ready_disks.Goals as goal

pub returns-then-have_units-clause-ready : goal.returns-then-have_units-clause-ready
returns-then-have_units-clause-ready c =
    let as_many : have_units c.self.inside.units.items c.entries-entries.result.now ≡ true = sym (ap (λ (ms : List UnitMap). have_units ms c.entries-entries.result.now) c.deref.ensures.value) ∙ sym c.have_units.ensures ∙ c.if-have_units.true in
    made_stays c.self.inside.parts c.self.inside.shape c.self.inside.units.items (ready_tables c.self.inside.spare) (unit_maps_in c.self.inside.next_units) c.self.inside.spare c.args.next.now.entries c.entries-entries.result.now c.entries-entries.ensures.entries c.self.invariant as_many

pub returns-in_err-changed-clause-same : goal.returns-in_err-changed-clause-same
returns-in_err-changed-clause-same c =
    let other : have_units c.self.inside.units.items c.entries-entries.result.now ≡ false = sym (ap (λ (ms : List UnitMap). have_units ms c.entries-entries.result.now) c.deref.ensures.value) ∙ sym c.have_units.ensures ∙ c.if-have_units.false in
    λ before has same. absurd (not_same c.args.self.now c.self.inside.parts c.self.inside.shape c.self.inside.units.items (ready_tables c.self.inside.spare) (unit_maps_in c.self.inside.next_units) before c.args.next.now.entries c.entries-entries.result.now c.self.view_is c.entries-entries.ensures.entries other has same)

pub returns-clause-ready : goal.returns-clause-ready
returns-clause-ready c =
    let there = covered c.args.self.now c.self.inside.parts c.self.inside.shape c.self.inside.units.items (ready_tables c.self.inside.spare) (unit_maps_in c.self.inside.next_units) c.args.next.now.entries c.entries-entries.result.now c.self.view_is c.entries-entries.ensures.entries c.requires.units in
    let is = c.in_ok-changed.ensures ∙ ap (λ (ms : List UnitMap). changed_maps ms c.entries-entries.result.now) c.deref-2.ensures.value in
    made_ready c.self.inside.parts c.self.inside.shape c.self.inside.units.items c.in_ok-changed.changed.items (ready_tables c.self.inside.spare) (unit_maps_in c.self.inside.next_units) c.self.inside.spare c.args.next.now.entries c.entries-entries.result.now c.entries-entries.ensures.entries c.self.invariant there is

pub returns-clause-same : goal.returns-clause-same
returns-clause-same c =
    let other : have_units c.self.inside.units.items c.entries-entries.result.now ≡ false = sym (ap (λ (ms : List UnitMap). have_units ms c.entries-entries.result.now) c.deref.ensures.value) ∙ sym c.have_units.ensures ∙ c.if-have_units.false in
    λ before has same. absurd (not_same c.args.self.now c.self.inside.parts c.self.inside.shape c.self.inside.units.items (ready_tables c.self.inside.spare) (unit_maps_in c.self.inside.next_units) before c.args.next.now.entries c.entries-entries.result.now c.self.view_is c.entries-entries.ensures.entries other has same)
