-- The copies of one extent, by its homes and its marks.
use Rattle.std.specs.Prelude.{◌≡◌, ℕ, ◌<◌, Bool, ◌&&◌, not, List, filter}
use Rattle.asm_group.specs.Shape.{Shape}
use Rattle.asm_formats.specs.Sets.{has_bit}
use Rattle.asm_formats.specs.Status.{Entry}
use Rattle.asm_formats.specs.Items.{Item}
use Rattle.asm_placement.specs.Layout.{units_of}
use Rattle.asm_placement.specs.Tables.{is_stale}
use Rattle.asm_placement.specs.Modes.{serves}
use Rattle.asm_placement.specs.Copies.{Copy, copies_at, same_extent, is_on}
use Rattle.extent_copies.specs.declared.extent.Extent.{Extent}

abbrev pub copy_of : Extent → ℕ → Copy
copy_of x k = record { file = x.id.file; index = x.id.index; copy = k; homes = x.homes }

-- its copies, by number
abbrev pub copies_of_extent : Extent → List Copy
copies_of_extent x = copies_at x.id.file x.id.index x.homes 0 x.copies

-- The extent is as the records have it, and among these copies its own are those of its number.
pub record IsExtentOf (s : Shape) (items : List Item) (all : List Copy) (x : Extent) : Type 0 where
  pub units : x.units ≡ units_of s.step x.id.index
  pub marks : (k : ℕ) → k < x.copies → has_bit x.marks k ≡ is_stale items x.id.file x.id.index k
  pub copies : filter (same_extent (copy_of x 0)) all ≡ copies_of_extent x

-- ---- by marks

-- the copy's disk serves, and it isn't stale
abbrev pub can_be_read_at : List Entry → Extent → ℕ → Bool
can_be_read_at es x k = is_on serves es (copy_of x k) && not (has_bit x.marks k)
