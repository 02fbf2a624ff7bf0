-- Up to where disks are used by the copies of extents.
use Rattle.std.specs.Prelude.{◌≡◌, ◌⊎◌, ℕ, ◌+◌, ◌*◌, ◌<◌, ◌≤◌, max, List, [], length, get_or, Option, Some, None}
use Rattle.asm_formats.specs.Among.{IsAmong}
use Rattle.asm_formats.specs.Items.{Home, Homes}
use Rattle.disk_sizes.specs.Sizes.{least_units}
use Rattle.asm_placement.specs.Layout.{units_of}
use Rattle.group_reports.specs.catalog_tables.Tables.{Catalogued}
use Rattle.group_reports.specs.extent_map.Extents.{Chunked}

-- a copy of so many units, with this home, ends there on a disk
abbrev pub IsHomeEnd : ℕ → Option Home → ℕ → ℕ → Type 0
IsHomeEnd units None d end = ⊥
IsHomeEnd units (Some h) d end = (h.disk ≡ d) × (end ≡ h.unit + units)

-- a copy of an extent with these homes does
abbrev pub IsCopyEnd : ℕ → Homes → ℕ → ℕ → Type 0
IsCopyEnd units homes d end = (copy : ℕ) × IsHomeEnd units (get_or homes copy None) d end

-- a copy of an extent in this chunk does, whose extents count from 256 times its number
abbrev pub IsChunkEnd : ℕ → Chunked → ℕ → ℕ → Type 0
IsChunkEnd step x d end = (place : ℕ) × IsCopyEnd (units_of step (x.0.1 * 256 + place)) (get_or x.1 place []) d end

-- a copy of an extent in one of these chunks does
abbrev pub IsEndIn : ℕ → List Chunked → ℕ → ℕ → Type 0
IsEndIn step xs d end = (x : Chunked) × IsAmong xs x × IsChunkEnd step x d end

-- a copy of an extent of the group does
abbrev pub IsEnd : Catalogued → ℕ → ℕ → Type 0
IsEnd c d end = IsEndIn c.shape.step c.tables.extents d end

-- The last ends of disks, after some ends more.
pub record HasEnds (more : ℕ → ℕ → Type 0) (old new : List ℕ) : Type 0 where
  pub places : length new ≡ length old
  pub no_less : (d : ℕ) → get_or old d 0 ≤ get_or new d 0
  -- none of them is behind
  pub covers : (d end : ℕ) → d < length old → more d end → end ≤ get_or new d 0
  -- each is the one that was, or one of them
  pub one : (d : ℕ) → (get_or new d 0 ≡ get_or old d 0) ⊎ more d (get_or new d 0)

-- The disk is used up to there: a copy ends there, or there is none, and no copy ends behind.
pub record IsUsedTo (c : Catalogued) (d end : ℕ) : Type 0 where
  pub one : (end ≡ 0) ⊎ IsEnd c d end
  pub last : (other : ℕ) → IsEnd c d other → other ≤ end

-- each of 64 disks is used up to the end that the list has
abbrev pub AreUsedTo : Catalogued → List ℕ → Type 0
AreUsedTo c ends = (d : ℕ) → d < 64 → IsUsedTo c d (get_or ends d 0)

-- The units that a disk needs: those of its directory region with 16 for users, or those up to its last end where these are more.
pub record NeedsUnits (c : Catalogued) (d need : ℕ) : Type 0 where
  pub used : ℕ
  pub to : IsUsedTo c d used
  pub is : need ≡ max (least_units c.shape) used
