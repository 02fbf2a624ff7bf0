use Rattle.std.proofs.Common.{subst, sym}
use Rattle.catalog.specs.Applying.{Leaves}
use Rattle.plan_records.specs.catalog_tables.Changing.{IsAfter}
use Rattle.catalog.specs.Spares.{ready_tables, unit_maps_in}
use Rattle.plan_records.specs.catalog_tables.Tables.{Catalogued, Tables}
use Rattle.catalog.proofs.ApplyingLaws.{ready_is}
use Rattle.catalog.proofs.catalog.Catalog.ready.Goals as goal

pub returns-clause-ready : goal.returns-clause-ready
returns-clause-ready c =
    ready_is c.self.inside.parts c.in_ok-parts.parts c.self.inside.shape c.self.inside.units.items (ready_tables c.self.inside.spare) (unit_maps_in c.self.inside.next_units) (unit_maps_in c.self.inside.next_units) c.args.change.now.put c.args.change.now.gone
    (subst (λ (x : Catalogued). (v : Tables) × Leaves x c.args.change.now.put c.args.change.now.gone v) (sym c.self.view_is) c.requires)
    (subst (λ (x : Tables). IsAfter x c.args.change.now.put c.args.change.now.gone c.in_ok-parts.parts) c.in_ok-equal.ensures c.in_ok-parts.ensures)
