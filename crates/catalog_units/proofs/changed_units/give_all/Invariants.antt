use Rattle.std.proofs.Common.{◌≡◌, List, Some, take}
use Rattle.catalog_tables.specs.allocator.UnitMaps.{UnitMap}
use Rattle.catalog_units.specs.Giving.{AreUnitsOfKept, changed_keys, is_chunk_kept}
use Rattle.catalog_tables.specs.Placing.{after_chunks}
use Rattle.catalog_units.proofs.changed_units.give_all.Given as goal

abbrev pub invariant-loop-place : goal.invariant-loop-place
invariant-loop-place l = (first : List UnitMap) → after_chunks l.step first l.extents ≡ Some l.fn.units → AreUnitsOfKept l.step first (is_chunk_kept (take l.place (changed_keys l.put l.gone))) l.extents l.units
