use Rattle.std.proofs.Common.{◌≡◌}
use Rattle.catalog_tables.specs.Placing.{after_chunks, first_misplaced}
use Rattle.catalog_tables.proofs.placing.place_all.Given as goal

abbrev pub invariant-loop-at : goal.invariant-loop-at
invariant-loop-at l = record {
  fault : first_misplaced l.step l.units l.at-iterator ≡ first_misplaced l.step l.fn.units l.extents;
  after : after_chunks l.step l.units l.at-iterator ≡ after_chunks l.step l.fn.units l.extents;
}
