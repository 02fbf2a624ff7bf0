use Rattle.std.proofs.Common.{◌≡◌}
use Rattle.catalog_tables.specs.Placing.{put_maps}
use Rattle.catalog_units.proofs.resized_units.put_maps.Given as goal

abbrev pub invariant-loop-number : goal.invariant-loop-number
invariant-loop-number l = put_maps l.units l.number-iterator.rest.items ≡ put_maps l.fn.units l.fn.changed.items
