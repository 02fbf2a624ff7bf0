-- What calls leave of the bytes that a group is held by: they change other parts of the disks.
use Rattle.std.specs.Prelude.{◌≡◌, ◌⊎◌, ℕ, ◌+◌, ◌*◌, ◌<◌, ◌≤◌, get_or, Some, IsTrue}
use Rattle.std.specs.FinMap as maps
use Rattle.bay.specs.Image.{ChangesOnly, Image, Range}
use Rattle.bay.specs.Moments.{NowOnly}
use Rattle.bay.specs.State.{BayState}
use Rattle.asm_group.specs.Group.{Known, Free, File, Group}
use Rattle.asm_group.specs.Shape.{Shape, is_shape}
use Rattle.asm_formats.specs.Among.{IsAmong}
use Rattle.asm_formats.specs.Bytes.{block_size}
use Rattle.asm_formats.specs.Items.{Home}
use Rattle.asm_formats.specs.Regions.{region_end}
use Rattle.asm_formats.specs.Status.{Status}
use Rattle.asm_placement.specs.Layout.{units_of}
use Rattle.asm_images.specs.Bridge.{disks_in}
use Rattle.asm_images.specs.Copies.{is_kept}
use Rattle.asm_images.specs.Describing.{LiesIn, extent_size}
use Rattle.asm_images.specs.Kept.{Kept}
use Rattle.asm_images.specs.Members.{Member, all_members}
use Rattle.asm_images.specs.WriteLaws.{AreApart}
use Rattle.catalog.specs.ExtentPlans.{home_at}
use Rattle.catalog_tables.specs.Tables.{AreTables, Tables}
use Rattle.group_of.specs.Describing.{HaveGroup}
use Rattle.group_engine.specs.Becoming.{HoldsIn}
use Rattle.group_engine.specs.Mounts.{MountedGroup, Mounts, slot_at}
use Rattle.flight_laws.specs.Agreeing.{AgreesBelow, HasCurrent}

-- ---- parts of the disks

-- the disks have their sizes, and their first two blocks, where the headers are
pub record KeepsHeaders (old new : Image) : Type 0 where
  pub size : (slot : ℕ) → new.size slot ≡ old.size slot
  pub byte : (slot k : ℕ) → k < 2 * block_size → new.byte slot k ≡ old.byte slot k

-- at the home the bytes stay of the extent's known cells below an end, on each member that the record keeps as the home's disk
abbrev pub KeepsHome : (id : ℕ) → Status → Group → (f i : ℕ) → Home → (end : ℕ) → (old new : Image) → Type 0
KeepsHome id r g f i h end old new =
    (slots o b inner : ℕ) (file : File) (k : Member) → maps.get g.files f ≡ Some file → get_or file.cells o Free ≡ Known b
    → LiesIn g.shape file.stripe o i inner → inner < end → IsAmong (all_members id (disks_in slots old)) k → IsTrue (is_kept r h.disk k.header)
    → new.byte k.slot (h.unit * g.shape.au + inner) ≡ old.byte k.slot (h.unit * g.shape.au + inner)

-- so they do in each copy that is current by the tables
abbrev pub KeepsKnown : (id : ℕ) → Status → Tables → Group → (old new : Image) → Type 0
KeepsKnown id r t g old new = (f i copy : ℕ) (h : Home) → HasCurrent t f i copy h → KeepsHome id r g f i h (extent_size g.shape i) old new

-- bytes change behind the headers alone, and below the ends of the directory regions
abbrev pub OnMetadata : Shape → Image → Image → Type 0
OnMetadata s = ChangesOnly (λ slot k. (2 * block_size ≤ k) × (k < region_end s.dir_blocks * block_size))

-- the home lies behind the directory region of its disk
abbrev pub IsUserHome : Shape → Home → Type 0
IsUserHome s h = region_end s.dir_blocks * block_size ≤ h.unit * s.au

-- each home of the tables does
abbrev pub AreUserHomes : Shape → Tables → Type 0
AreUserHomes s t = (f i copy : ℕ) (h : Home) → home_at t f i copy ≡ Some h → IsUserHome s h

-- ---- any part

-- What the disks hold they hold still where the headers and the known bytes of current copies stay.
abbrev pub HoldsElsewhere : Type 0
HoldsElsewhere =
    (id : ℕ) (r : Status) (t : Tables) (g : Group) (old new : Image) → AreTables t → KeepsHeaders old new → KeepsKnown id r t g old new → HoldsIn id r t g old
    → HoldsIn id r t g new

-- What they have at a home they have still where its known bytes stay.
abbrev pub AgreesElsewhere : Type 0
AgreesElsewhere =
    (id : ℕ) (r : Status) (g : Group) (f i : ℕ) (h : Home) (end : ℕ) (old new : Image) → KeepsHeaders old new → KeepsHome id r g f i h end old new
    → AgreesBelow id r g f i h end old → AgreesBelow id r g f i h end new

-- ---- metadata

-- The homes of tables that describe a group lie behind the directory regions.
abbrev pub DescribedHomesAreUser : Type 0
DescribedHomesAreUser = (r : Status) (t : Tables) (g : Group) → AreTables t → IsTrue (is_shape g.shape) → HaveGroup r t g → AreUserHomes g.shape t

-- What the disks hold they hold still where claims, status records and directory copies change.
abbrev pub MetadataHolds : Type 0
MetadataHolds =
    (id : ℕ) (r : Status) (t : Tables) (g : Group) (old new : Image) → AreTables t → AreUserHomes g.shape t → OnMetadata g.shape old new → HoldsIn id r t g old → HoldsIn id r t g new

-- So it is with what they have at a home.
abbrev pub MetadataAgrees : Type 0
MetadataAgrees =
    (id : ℕ) (r : Status) (g : Group) (f i : ℕ) (h : Home) (end : ℕ) (old new : Image) → IsUserHome g.shape h → OnMetadata g.shape old new
    → AgreesBelow id r g f i h end old → AgreesBelow id r g f i h end new

-- ---- units in which nothing is kept

-- the member in the slot, if there is one, is disk d
abbrev pub IsDiskIn : (id slot d : ℕ) → Image → Type 0
IsDiskIn id slot d image = (slots : ℕ) (k : Member) → IsAmong (all_members id (disks_in slots image)) k → k.slot ≡ slot → k.header.number ≡ d

-- an attached disk is in its slot, in each image
abbrev pub AttachedAreIn : BayState → Type 0
AttachedAreIn s = (n : ℕ) (m : MountedGroup) (g : Group) (kept : Kept) (d slot : ℕ) → Mounts n m s g kept → slot_at m.disks d ≡ Some slot → NowOnly s (IsDiskIn m.register.id slot d)

-- n bytes from byte `at` on, behind the header, that lie in a run of units
pub record LieInUnits (au unit len at n : ℕ) : Type 0 where
  pub header : 2 * block_size ≤ at
  pub low : unit * au ≤ at
  pub high : at + n ≤ (unit + len) * au

-- the extent has no known cell
abbrev pub HasNoCells : Group → (f i : ℕ) → Type 0
HasNoCells g f i = (o b inner : ℕ) (file : File) → maps.get g.files f ≡ Some file → get_or file.cells o Free ≡ Known b → LiesIn g.shape file.stripe o i inner → ⊥

-- each copy on disk d that is current by the tables lies apart from the run of units, or is of an extent without known cells
abbrev pub NoneKnownIn : Tables → Group → (d unit len : ℕ) → Type 0
NoneKnownIn t g d unit len =
    (f i copy : ℕ) (h : Home) → HasCurrent t f i copy h → h.disk ≡ d → AreApart unit len h.unit (units_of g.shape.step i) ⊎ HasNoCells g f i

-- What the disks hold they hold still where bytes of such units change, however torn.
abbrev pub SpareHolds : Type 0
SpareHolds =
    (id : ℕ) (r : Status) (t : Tables) (g : Group) (slot d unit len at n : ℕ) (old new : Image) → AreTables t → IsDiskIn id slot d old → LieInUnits g.shape.au unit len at n
    → NoneKnownIn t g d unit len → ChangesOnly (Range slot at n) old new → HoldsIn id r t g old → HoldsIn id r t g new

-- So it is with what they have at a home that lies apart from the units, or on another disk.
abbrev pub SpareAgrees : Type 0
SpareAgrees =
    (id : ℕ) (r : Status) (g : Group) (f i : ℕ) (h : Home) (end slot d unit len at n : ℕ) (old new : Image) → IsDiskIn id slot d old → LieInUnits g.shape.au unit len at n
    → (h.disk ≡ d → AreApart unit len h.unit (units_of g.shape.step i)) → ChangesOnly (Range slot at n) old new
    → AgreesBelow id r g f i h end old → AgreesBelow id r g f i h end new
