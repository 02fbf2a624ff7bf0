use Rattle.std.proofs.Common.{List, sym, ap, ◌∙◌}
use Rattle.catalog_tables.proofs.FaultLaws.{misplaced_is}
use Rattle.catalog_tables.specs.Placing.{first_misplaced}
use Rattle.page_map.specs.allocator.UnitMaps.{UnitMap}
use Rattle.catalog_tables.proofs.parts.Parts.units.Goals as goal

pub returns-in-Some-clause-fault : goal.returns-in-Some-clause-fault
returns-in-Some-clause-fault c =
    misplaced_is c.args.shape.now c.args.entries.now c.args.self.now c.in-Some.at c.chunk_key.result
    (rw (← c.shape.view_is, ← c.self.view_is) (ap (λ (ms : List UnitMap). first_misplaced c.shape.inside.step ms c.self.inside.extents) (rw c.shape.view_is (sym c.in_ok-units.ensures)) ∙ sym c.in-Some.ensures.fault))
    c.chunk_key.ensures
