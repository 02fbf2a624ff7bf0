use Rattle.std.proofs.Common.{◌≡◌, ◌+◌, drop}
use Rattle.partnership.specs.asm_placement.Placed.{placed_extents}
use Rattle.catalog_tables.specs.Placing.{after_homes}
use Rattle.catalog_tables.proofs.placing.place_chunk.Given as goal

abbrev pub invariant-loop-homes : goal.invariant-loop-homes
invariant-loop-homes l = record {
  after : after_homes l.units (placed_extents l.step l.file l.index (drop l.homes-index l.extents)) ≡ after_homes l.fn.units (placed_extents l.step l.file l.first l.extents);
  index : l.index ≡ l.first + l.homes-index;
}
