use Rattle.std.proofs.Common.{◌≡◌, ℕ, ◌<◌, true}
use Rattle.extent_map.specs.Extents.{extent_at}
use Rattle.catalog_tables.specs.Rules.{has_copies}
use Rattle.catalog_tables.proofs.parts.Parts.lacks_copy.Given as goal

abbrev pub invariant-loop-index : goal.invariant-loop-index
invariant-loop-index l = (i : ℕ) → i < l.index → has_copies l.copies (extent_at l.self.extents l.file i) ≡ true
