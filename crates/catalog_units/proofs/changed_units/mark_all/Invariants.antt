use Rattle.std.proofs.Common.{◌≡◌, ◌-◌, List, Some, take}
use Rattle.catalog_tables.specs.allocator.UnitMaps.{UnitMap}
use Rattle.catalog_units.specs.Giving.{AreUnitsOfKept, changed_keys, is_chunk_kept}
use Rattle.catalog_tables.specs.Placing.{after_chunks}
use Rattle.catalog_units.proofs.changed_units.mark_all.Given as goal

abbrev pub invariant-loop-done : goal.invariant-loop-done
invariant-loop-done l = (first after : List UnitMap) → AreUnitsOfKept l.step first (is_chunk_kept (changed_keys l.put l.gone)) l.extents l.fn.units → after_chunks l.step first l.extents ≡ Some after
    → AreUnitsOfKept l.step first (is_chunk_kept (take (l.count - l.done) (changed_keys l.put l.gone))) l.extents l.units
