use Rattle.std.proofs.Common.{◌≡◌, ◌+◌, drop, List, Some}
use Rattle.catalog_tables.specs.asm_placement.Placed.{placed_extents}
use Rattle.catalog_tables.specs.allocator.UnitMaps.{UnitMap}
use Rattle.catalog_tables.specs.Placing.{after_homes}
use Rattle.catalog_units.proofs.giving.give_chunk.Given as goal

abbrev pub invariant-loop-homes : goal.invariant-loop-homes
invariant-loop-homes l = record {
  after : (before : List UnitMap) → after_homes before (placed_extents l.step l.file l.first l.extents) ≡ Some l.fn.units → after_homes before (placed_extents l.step l.file l.index (drop l.homes-index l.extents)) ≡ Some l.units;
  index : l.index ≡ l.first + l.homes-index;
}
