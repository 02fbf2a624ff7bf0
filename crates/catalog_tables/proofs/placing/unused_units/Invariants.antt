use Rattle.std.proofs.Common.{◌≡◌, map}
use Rattle.std.specs.List.{range_with_len}
use Rattle.asm_formats.specs.Regions.{reserved_units}
use Rattle.page_map.specs.allocator.UnitMaps.{unused}
use Rattle.catalog_tables.specs.Placing.{disk_units}
use Rattle.catalog_tables.proofs.placing.unused_units.Given as goal

abbrev pub invariant-loop-number : goal.invariant-loop-number
invariant-loop-number l = l.units.items ≡ map (λ d. unused (reserved_units l.shape) (disk_units l.entries d)) (range_with_len 0 l.number)
