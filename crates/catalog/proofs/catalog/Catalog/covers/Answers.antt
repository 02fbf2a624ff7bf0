use Rattle.catalog.specs.Spares.{ready_tables, unit_maps_in}
use Rattle.catalog.proofs.DiskUnitLaws.{covers_is, covers_same}
use Rattle.catalog.proofs.catalog.Catalog.covers.Goals as goal

pub returns-clause-covers : goal.returns-clause-covers
returns-clause-covers c =
    covers_is c.args.self.now c.self.inside.parts c.self.inside.shape c.self.inside.units.items (ready_tables c.self.inside.spare) (unit_maps_in c.self.inside.next_units) c.self.inside.spare c.args.entries.now c.are_fit.result c.self.view_is c.self.invariant
    (rw (← c.deref.ensures.value) c.are_fit.ensures.fit) (rw (← c.deref.ensures.value) c.are_fit.ensures.not)

pub returns-clause-same : goal.returns-clause-same
returns-clause-same c =
    λ before has same. covers_same c.args.self.now before c.args.entries.now c.are_fit.result (covers_is c.args.self.now c.self.inside.parts c.self.inside.shape c.self.inside.units.items (ready_tables c.self.inside.spare) (unit_maps_in c.self.inside.next_units) c.self.inside.spare c.args.entries.now c.are_fit.result c.self.view_is c.self.invariant
    (rw (← c.deref.ensures.value) c.are_fit.ensures.fit) (rw (← c.deref.ensures.value) c.are_fit.ensures.not)) has same
