-- Homes for new extents one after the other.
use Rattle.std.specs.Prelude.{◌≡◌, ℕ, ◌+◌, true, List, [], ◌∷◌, slice_set, if◌then◌else◌, Option, Some, None}
use Rattle.std.specs.List.{slice_get}
use Rattle.std.specs.Option.{option_and_then, option_map}
use Rattle.asm_formats.specs.Status.{Entry}
use Rattle.asm_formats.specs.Items.{Home, Homes}
use Rattle.asm_placement.specs.Layout.{units_of}
use Rattle.allocator.specs.UnitMaps.{UnitMap, with_run}
use Rattle.partnership.specs.Candidates.{candidates, chosen_homes, is_free_from}

-- ---- homes that are used

-- the map with n units from one on used, where these are free user units
abbrev pub run_used : ℕ → ℕ → UnitMap → Option UnitMap
run_used n at m = if is_free_from m n at then Some (with_run m at n true) else None

-- the maps with the units of a home used, where it is there and they are free user units of its disk
abbrev pub home_used : ℕ → List UnitMap → Option Home → Option (List UnitMap)
home_used n ms None = Some ms
home_used n ms (Some h) = option_map (λ m. slice_set ms h.disk m) (option_and_then (run_used n h.unit) (slice_get ms h.disk))

-- the same of all homes of an extent of n units
abbrev pub homes_used : ℕ → List UnitMap → Homes → Option (List UnitMap)
homes_used n ms [] = Some ms
homes_used n ms (h ∷ hs) = option_and_then (λ next. homes_used n next hs) (home_used n ms h)

-- ---- rows

-- what homes are chosen by: the disks, the number of copies, and the group's extents of each size
pub record Choosing : Type 0 where
  pub entries : List Entry
  pub copies : ℕ
  pub step : ℕ

-- the homes of extent i by these maps, or none
abbrev pub homes_for_extent : Choosing → List UnitMap → ℕ → Option Homes
homes_for_extent c ms i = chosen_homes (candidates (units_of c.step i) c.entries ms) c.copies

-- The homes are those of the extents from i on, each chosen by the maps in which the units of those before it are used. The last
-- maps are those in which the units of all are used.
abbrev pub IsRow : Choosing → ℕ → List UnitMap → List Homes → List UnitMap → Type 0
IsRow c i ms [] last = ms ≡ last
IsRow c i ms (hs ∷ more) last = (homes_for_extent c ms i ≡ Some hs) × ((next : List UnitMap) × (homes_used (units_of c.step i) ms hs ≡ Some next) × IsRow c (i + 1) next more last)
