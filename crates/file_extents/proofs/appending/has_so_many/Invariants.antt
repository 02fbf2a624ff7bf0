use Rattle.std.proofs.Common.{◌≡◌, ℕ, ◌+◌, ◌*◌, ◌<◌, true}
use Rattle.catalog_tables.specs.extent_map.Extents.{has_extent}
use Rattle.file_extents.proofs.appending.has_so_many.Given as goal

abbrev pub invariant-loop-place : goal.invariant-loop-place
invariant-loop-place l = (k : ℕ) → k < l.place → has_extent l.catalog.tables.extents l.file (l.chunk * 256 + k) ≡ true
