-- Maps of units that are those of a group's records, and the homes of an extent that are kept.
use Rattle.std.specs.Prelude.{◌≡◌, IsSomeAnd, ℕ, suc, ◌≤◌, ◌<◌, Bool, false, List, [], ◌∷◌, if◌then◌else◌, ◌==◌, Option, Some, None}
use Rattle.std.specs.List.{AllByRecursion, slice_get}
use Rattle.std.specs.Option.{is_some}
use Rattle.asm_formats.specs.asm_group.Shape.{Shape}
use Rattle.asm_formats.specs.Regions.{reserved_units}
use Rattle.asm_formats.specs.Status.{Entry}
use Rattle.asm_formats.specs.Items.{Item, Home, Homes}
use Rattle.allocator.specs.UnitMaps.{UnitMap, is_free, used_of}
use Rattle.asm_placement.specs.Placed.{placed}
use Rattle.asm_placement.specs.Space.{is_free_run, used_units}
use Rattle.asm_placement.specs.Choices.{staying_disk, is_eligible}

-- The map is that of the disk: the units behind the reserved ones are free where no home meets them, and used where one does.
pub record AreUnits (s : Shape) (items : List Item) (e : Entry) (m : UnitMap) : Type 0 where
  pub first : m.first ≡ reserved_units s
  pub units : m.units ≡ e.units
  pub free : (k : ℕ) → reserved_units s ≤ k → k < e.units → is_free m k ≡ is_free_run (placed s.step items) e.number 1 k
  pub used : used_of m ≡ used_units s items e.number

-- the maps are those of the disks, each at the place of its disk's number
abbrev pub AreUnitsOf : Shape → List Item → List Entry → List UnitMap → Type 0
AreUnitsOf s items es ms = AllByRecursion (λ e. IsSomeAnd (slice_get ms e.number) (AreUnits s items e)) es

-- ---- the homes of an extent

-- those that are there
abbrev pub held : Homes → List Home
held [] = []
held (None ∷ hs) = held hs
held (Some h ∷ hs) = h ∷ held hs

-- those on disks that stay, but for copy number `replaced`
abbrev pub kept_homes_from : List Entry → ℕ → ℕ → Homes → List Home
kept_homes_from es replaced copy [] = []
kept_homes_from es replaced copy (None ∷ hs) = kept_homes_from es replaced (suc copy) hs
kept_homes_from es replaced copy (Some h ∷ hs) =
    if copy == replaced then kept_homes_from es replaced (suc copy) hs
    else if is_some (staying_disk es (Some h)) then h ∷ kept_homes_from es replaced (suc copy) hs
    else kept_homes_from es replaced (suc copy) hs

abbrev pub homes_kept : List Entry → ℕ → Homes → List Home
homes_kept es replaced homes = kept_homes_from es replaced 0 homes

-- the lists are those of an extent with these homes whose copy number `replaced` is to be replaced
pub record AreHomesOf (es : List Entry) (replaced : ℕ) (homes : Homes) (kept_homes holding : List Home) : Type 0 where
  pub kept_is : kept_homes ≡ homes_kept es replaced homes
  pub holders_are : holding ≡ held homes

abbrev pub is_eligible_at : List Entry → ℕ → Homes → Option Entry → Bool
is_eligible_at es replaced homes None = false
is_eligible_at es replaced homes (Some e) = is_eligible es replaced homes e
