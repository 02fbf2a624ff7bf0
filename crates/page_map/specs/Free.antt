-- Which pages are free.
use Rattle.std.specs.Prelude.{◌≡◌, ℕ, ◌<◌, Bool, true, false, length}
use Rattle.allocator.specs.UnitMaps as units
use Rattle.allocator.specs.UnitMaps.{UnitMap}

-- the pages, and of each whether it is taken
abbrev pub FreeMap : Type 0
FreeMap = UnitMap

-- the page is there, and free
abbrev pub is_page_free : FreeMap → ℕ → Bool
is_page_free = units.is_free

-- no free page is below
pub record IsLeastFreePage (m : FreeMap) (page : ℕ) : Type 0 where
  pub free : is_page_free m page ≡ true
  pub inside : page < m.units
  pub least : (k : ℕ) → k < page → is_page_free m k ≡ false

-- no page is kept back, and each has its mark
pub record IsFreeMap (m : FreeMap) : Type 0 where
  pub first : m.first ≡ 0
  pub length : length m.used ≡ m.units
