-- What the disks hold of a group, and have at a home, under a later status record.
use Rattle.std.specs.Prelude.{◌≡◌, ℕ, Some, IsTrue}
use Rattle.std.specs.Option.{is_some}
use Rattle.bay.specs.Image.{Image}
use Rattle.asm_group.specs.Group.{Group}
use Rattle.asm_formats.specs.Items.{Home}
use Rattle.asm_formats.specs.Status.{Status, entry_of}
use Rattle.catalog.specs.ExtentPlans.{home_at}
use Rattle.catalog_tables.specs.Tables.{AreTables, Tables}
use Rattle.group_of.specs.Describing.{HaveGroup}
use Rattle.group_engine.specs.Becoming.{HoldsIn}
use Rattle.record_laws.specs.Holding.{KeepsNoMore}
use Rattle.flight_laws.specs.Agreeing.{AgreesBelow}

-- each home of the tables lies on a disk with an entry
abbrev pub HaveEntries : Status → Tables → Type 0
HaveEntries r t = (f i copy : ℕ) (h : Home) → home_at t f i copy ≡ Some h → IsTrue (is_some (entry_of r.entries h.disk))

-- ---- laws

-- A record with the same entries keeps no more disks.
abbrev pub SameEntriesKeep : Type 0
SameEntriesKeep = (r s : Status) → s.entries ≡ r.entries → KeepsNoMore r s

-- The homes of tables that describe a group lie on disks with entries.
abbrev pub DescribedHaveEntries : Type 0
DescribedHaveEntries = (r : Status) (t : Tables) (g : Group) → AreTables t → HaveGroup r t g → HaveEntries r t

-- What the disks hold under a record, by tables whose homes have entries, they hold under one that keeps no more disks.
abbrev pub LaterRecordKeeps : Type 0
LaterRecordKeeps =
    (id : ℕ) (r s : Status) (t : Tables) (g : Group) (image : Image) → AreTables t → HaveEntries r t → KeepsNoMore r s → HoldsIn id r t g image → HoldsIn id s t g image

-- So it is with what they have at a home, whose disk has an entry.
abbrev pub LaterRecordAgrees : Type 0
LaterRecordAgrees =
    (id : ℕ) (r s : Status) (g : Group) (f i : ℕ) (h : Home) (end : ℕ) (image : Image) → IsTrue (is_some (entry_of r.entries h.disk)) → KeepsNoMore r s
    → AgreesBelow id r g f i h end image → AgreesBelow id s g f i h end image
