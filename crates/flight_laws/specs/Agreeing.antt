-- Copies of which each image has the bytes, however these came there: tables may call them current.
use Rattle.std.specs.Prelude.{◌≡◌, ◌⊎◌, ℕ, ◌+◌, ◌*◌, ◌<◌, true, false, get_or, Some, IsTrue}
use Rattle.std.specs.FinMap as maps
use Rattle.bay.specs.Image.{Image}
use Rattle.asm_group.specs.Group.{Known, Free, File, Group}
use Rattle.asm_formats.specs.Among.{IsAmong}
use Rattle.asm_formats.specs.Items.{Home}
use Rattle.asm_formats.specs.Sets.{has_bit}
use Rattle.asm_formats.specs.Status.{Status}
use Rattle.asm_images.specs.Bridge.{disks_in}
use Rattle.asm_images.specs.Copies.{is_kept}
use Rattle.asm_images.specs.Describing.{LiesIn, extent_size}
use Rattle.asm_images.specs.Members.{Member, all_members, byte}
use Rattle.catalog.specs.ExtentPlans.{home_at, with_marks_changed, with_move}
use Rattle.catalog_tables.specs.Rules.{marks_of}
use Rattle.catalog_tables.specs.Tables.{AreTables, Tables}
use Rattle.group_engine.specs.Becoming.{HoldsIn}

-- At the place of the home the image has the bytes of the extent's known cells that lie below an end, on each member that the record keeps
-- as the home's disk, however many of the image's slots are looked at.
abbrev pub AgreesBelow : (id : ℕ) → Status → Group → (f i : ℕ) → Home → (end : ℕ) → Image → Type 0
AgreesBelow id r g f i h end image =
    (slots o b inner : ℕ) (file : File) (k : Member) → maps.get g.files f ≡ Some file → get_or file.cells o Free ≡ Known b
    → LiesIn g.shape file.stripe o i inner → inner < end → IsAmong (all_members id (disks_in slots image)) k → IsTrue (is_kept r h.disk k.header)
    → byte (disks_in slots image) k.slot (h.unit * g.shape.au + inner) ≡ b

-- the same of the whole extent
abbrev pub AgreesWhole : (id : ℕ) → Status → Group → (f i : ℕ) → Home → Image → Type 0
AgreesWhole id r g f i h image = AgreesBelow id r g f i h (extent_size g.shape i) image

-- the copy has this home by the tables, and isn't marked stale
abbrev pub HasCurrent : Tables → (f i copy : ℕ) → Home → Type 0
HasCurrent t f i copy h = (home_at t f i copy ≡ Some h) × (has_bit (marks_of t f i) copy ≡ false)

-- Each copy that is current by the tables u is so by t, at the same home, or has the bytes of its extent there.
abbrev pub AddsAgreed : (id : ℕ) → Status → (t u : Tables) → Group → Image → Type 0
AddsAgreed id r t u g image = (f i copy : ℕ) (h : Home) → HasCurrent u f i copy h → HasCurrent t f i copy h ⊎ AgreesWhole id r g f i h image

-- each copy of the extent whose mark is cleared has the bytes at its home
abbrev pub ClearedAgree : (id : ℕ) → Status → Tables → Group → (f i clear : ℕ) → Image → Type 0
ClearedAgree id r t g f i clear image = (copy : ℕ) (h : Home) → home_at t f i copy ≡ Some h → has_bit clear copy ≡ true → AgreesWhole id r g f i h image

-- ---- laws

-- So what the disks hold of a group by t they hold by u.
abbrev pub AgreedHold : Type 0
AgreedHold =
    (id : ℕ) (r : Status) (t u : Tables) (g : Group) (image : Image) → AreTables t → AreTables u → AddsAgreed id r t u g image → HoldsIn id r t g image
    → HoldsIn id r u g image

-- They hold it by tables in which a copy is current at a home where each image agrees for the whole extent: another home or its own.
abbrev pub AgreedCopiesHold : Type 0
AgreedCopiesHold =
    (id : ℕ) (r : Status) (t : Tables) (g : Group) (f i copy : ℕ) (h : Home) (image : Image) → AreTables t → AreTables (with_move t f i copy h)
    → AgreesWhole id r g f i h image → HoldsIn id r t g image → HoldsIn id r (with_move t f i copy h) g image

-- Where marks of an extent are set and cleared, they hold it if each copy whose mark is cleared agrees.
abbrev pub ClearedCopiesHold : Type 0
ClearedCopiesHold =
    (id : ℕ) (r : Status) (t : Tables) (g : Group) (f i set clear : ℕ) (image : Image) → AreTables t → AreTables (with_marks_changed t f i set clear) → clear < 8
    → ClearedAgree id r t g f i clear image → HoldsIn id r t g image → HoldsIn id r (with_marks_changed t f i set clear) g image

-- Marks that are set alone need nothing.
abbrev pub MarkedCopiesHold : Type 0
MarkedCopiesHold =
    (id : ℕ) (r : Status) (t : Tables) (g : Group) (f i set : ℕ) (image : Image) → AreTables t → AreTables (with_marks_changed t f i set 0)
    → HoldsIn id r t g image → HoldsIn id r (with_marks_changed t f i set 0) g image
