-- What was looked up of the units of disks.
use Rattle.std.specs.Prelude.{◌≡◌, ℕ, ◌<◌, List, length, get_or, Option, None}
use Rattle.std.specs.List.{slice_get}
use Rattle.std.specs.Option.{option_and_then}
use Rattle.allocator.specs.UnitMaps.{UnitMap}
use Rattle.partnership.specs.Candidates.{lowest}

-- the maps that were searched for n free units, each at the place of its disk's number
pub record Searched : Type 0 where
  pub n : ℕ
  pub maps : List UnitMap

-- at the place of each number that a byte has is where the lowest run begins in the map at that place
pub record AreStarts (n : ℕ) (maps : List UnitMap) (starts : List (Option ℕ)) : Type 0 where
  pub all : length starts ≡ 256
  pub each : (d : ℕ) → d < 256 → get_or starts d None ≡ option_and_then (lowest n) (slice_get maps d)
