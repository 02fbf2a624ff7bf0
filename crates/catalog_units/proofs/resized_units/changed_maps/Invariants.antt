use Rattle.std.proofs.Common.{◌≡◌}
use Rattle.std.specs.Prelude.{flat_map}
use Rattle.std.specs.List.{range_with_len, slice_get}
use Rattle.catalog_tables.specs.Placing.{changed_map, disk_units}
use Rattle.catalog_units.proofs.resized_units.changed_maps.Given as goal

abbrev pub invariant-loop-number : goal.invariant-loop-number
invariant-loop-number l = l.changed.items ≡ flat_map (λ d. changed_map d (disk_units l.entries d) (slice_get l.units d)) (range_with_len 0 l.number)
