-- The homes that the records name.
use Rattle.std.specs.Prelude.{ℕ, suc, ◌+◌, ◌*◌, Bool, true, false, ◌&&◌, ◌||◌, not, List, [], ◌∷◌, ◌++◌, nat_le, ◌==◌, Option, Some, None}
use Rattle.std.specs.List.{list_all}
use Rattle.asm_formats.specs.asm_group.Shape.{Shape}
use Rattle.asm_formats.specs.Regions.{reserved_units}
use Rattle.asm_formats.specs.Status.{Entry, entry_of}
use Rattle.asm_formats.specs.Items.{Item, chunk_item, Home, Homes, chunk_len}
use Rattle.asm_placement.specs.Layout.{units_of}

-- a copy of an extent with its home and its units
pub record Placed : Type 0 where
  pub file : ℕ
  pub index : ℕ
  pub home : Home
  pub len : ℕ

abbrev pub placed_copies : ℕ → ℕ → ℕ → Homes → List Placed
placed_copies f i len [] = []
placed_copies f i len (None ∷ hs) = placed_copies f i len hs
placed_copies f i len (Some h ∷ hs) = record { file = f; index = i; home = h; len = len } ∷ placed_copies f i len hs

abbrev pub placed_extents : ℕ → ℕ → ℕ → List Homes → List Placed
placed_extents step f i [] = []
placed_extents step f i (hs ∷ more) = placed_copies f i (units_of step i) hs ++ placed_extents step f (suc i) more

-- all homes that the records name
unfoldable pub placed : ℕ → List Item → List Placed
placed step [] = []
placed step (chunk_item f c homes ∷ items) = placed_extents step f (c * chunk_len) homes ++ placed step items
placed step (i ∷ items) = placed step items

-- two homes don't overlap, and those of one extent lie on different disks
abbrev pub are_apart : Placed → Placed → Bool
are_apart p q =
    not (p.home.disk == q.home.disk)
    || ((nat_le (p.home.unit + p.len) q.home.unit || nat_le (q.home.unit + q.len) p.home.unit) && not ((p.file == q.file) && (p.index == q.index)))

abbrev pub all_apart : List Placed → Bool
all_apart [] = true
all_apart (p ∷ ps) = list_all (are_apart p) ps && all_apart ps

-- a home lies in the user units of its disk
abbrev pub fits_entry : Shape → Placed → Option Entry → Bool
fits_entry s p None = false
fits_entry s p (Some e) = nat_le (reserved_units s) p.home.unit && nat_le (p.home.unit + p.len) e.units

abbrev pub is_inside : Shape → List Entry → Placed → Bool
is_inside s entries p = fits_entry s p (entry_of entries p.home.disk)

abbrev pub places_fit : Shape → List Entry → List Item → Bool
places_fit s entries items = list_all (is_inside s entries) (placed s.step items) && all_apart (placed s.step items)
