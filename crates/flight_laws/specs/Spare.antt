-- Units in which no current copy with known cells lies: free ones by a catalog's maps, and those of a copy that is marked stale.
use Rattle.std.specs.Prelude.{◌≡◌, ℕ, ◌<◌, true, List, Some, IsTrue}
use Rattle.std.specs.Option.{is_some}
use Rattle.asm_group.specs.Group.{Group}
use Rattle.asm_group.specs.Shape.{Shape, is_shape}
use Rattle.asm_formats.specs.Items.{Home}
use Rattle.asm_formats.specs.Sets.{has_bit}
use Rattle.asm_formats.specs.Status.{Entry, Status}
use Rattle.asm_placement.specs.Layout.{units_of}
use Rattle.asm_images.specs.WriteLaws.{AreApart}
use Rattle.allocator.specs.UnitMaps.{UnitMap}
use Rattle.catalog.specs.ExtentPlans.{home_at}
use Rattle.catalog_tables.specs.Placing.{HasUnits, home_taken}
use Rattle.catalog_tables.specs.Rules.{are_on_disks, homes_at, marks_of}
use Rattle.catalog_tables.specs.Tables.{AreTables, Tables}
use Rattle.group_of.specs.Describing.{HaveGroup}
use Rattle.flight_laws.specs.Elsewhere.{IsUserHome, NoneKnownIn}

-- every home of the tables on the disk lies apart from the run of units
abbrev pub NoHomeIn : (step : ℕ) → Tables → (d unit len : ℕ) → Type 0
NoHomeIn step t d unit len = (f i copy : ℕ) (k : Home) → home_at t f i copy ≡ Some k → k.disk ≡ d → AreApart unit len k.unit (units_of step i)

-- Units that are free by the maps of the tables are user units of their disk, and no home lies in them.
abbrev pub FreeUnitsAreSpare : Type 0
FreeUnitsAreSpare =
    (s : Shape) (entries : List Entry) (t : Tables) (ms : List UnitMap) (h : Home) (len : ℕ) → IsTrue (is_shape s) → AreTables t → HasUnits s entries t ms → 0 < len
    → IsTrue (is_some (home_taken ms h len)) → IsUserHome s h × NoHomeIn s.step t h.disk h.unit len

-- Then no known cell is there.
abbrev pub NoHomeNoneKnown : Type 0
NoHomeNoneKnown = (t : Tables) (g : Group) (d unit len : ℕ) → NoHomeIn g.shape.step t d unit len → NoneKnownIn t g d unit len

-- Nor is one where a copy lies that is marked stale, of a group that the tables describe and whose extents have their copies on different disks.
abbrev pub StaleCopyIsSpare : Type 0
StaleCopyIsSpare =
    (r : Status) (t : Tables) (g : Group) (f i copy : ℕ) (h : Home) → AreTables t → HaveGroup r t g → IsTrue (are_on_disks (homes_at t f i)) → home_at t f i copy ≡ Some h
    → has_bit (marks_of t f i) copy ≡ true → NoneKnownIn t g h.disk h.unit (units_of g.shape.step i)
