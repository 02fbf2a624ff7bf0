-- The operations by which files lose extents.
use Rattle.std.specs.Prelude.{◌≡◌, ◌↔◌, ◌<◌, ℕ, true}
use Rattle.asm_group.specs.declared.PendingKind.TheVariants.{Remove}
use Rattle.asm_group.specs.Shape.{Shape}
use Rattle.asm_formats.specs.Items.{FileHead, Pending}
use Rattle.catalog_units.specs.catalog_tables.Rules.{head_has_extent}

-- a file of this head has so many extents
abbrev pub HasSoMany : Shape → FileHead → ℕ → Type 0
HasSoMany s head n = (i : ℕ) → (i < n) ↔ (head_has_extent s head i ≡ true)

-- the removal of a file, which keeps no extent
abbrev pub removal_of : ℕ → Pending
removal_of f = record { kind = Remove; file = f; kept = 0 }
