-- What a write to the copies of an extent means for any group that the disks hold by tables, also for one that no records describe.
use Rattle.std.specs.Prelude.{◌≡◌, ℕ, List, [], ◌∷◌, Some, IsTrue}
use Rattle.bay.specs.Image.{ChangesOnly, Image}
use Rattle.asm_group.specs.Group.{Group}
use Rattle.asm_group.specs.Shape.{is_shape}
use Rattle.asm_formats.specs.Among.{IsAmong}
use Rattle.asm_formats.specs.Items.{Home}
use Rattle.asm_formats.specs.Status.{Status}
use Rattle.asm_placement.specs.Layout.{units_of}
use Rattle.asm_images.specs.Describing.{extent_size}
use Rattle.asm_images.specs.Spans.{FitsIn, Span, freed, settled}
use Rattle.asm_images.specs.WriteLaws.{AreApart}
use Rattle.catalog.specs.ExtentPlans.{home_at}
use Rattle.catalog_tables.specs.Tables.{AreTables, Tables}
use Rattle.group_of.specs.Describing.{HaveGroup}
use Rattle.piece_laws.specs.Targets.{RangesOf, Target}
use Rattle.group_engine.specs.Becoming.{HoldsIn}
use Rattle.flight_laws.specs.Agreeing.{AgreesBelow, HasCurrent}
use Rattle.flight_laws.specs.Elsewhere.{AreUserHomes, IsDiskIn}
use Rattle.flight_laws.specs.Following.{HasSpanBelow}

-- the targets are copies of the span's extent by the tables, each on the disk in its slot
abbrev pub AreCopiesIn : (id : ℕ) → Tables → Span → List Target → Image → Type 0
AreCopiesIn id t x targets image = (y : Target) → IsAmong targets y → (home_at t x.file x.index y.copy ≡ Some y.home) × IsDiskIn id y.slot y.home.disk image

-- each current copy of the span's extent has the bytes
abbrev pub CurrentHaveSpan : (id : ℕ) → Status → Tables → Group → Span → List ℕ → Image → Type 0
CurrentHaveSpan id r t k x bytes image = (copy : ℕ) (h : Home) → HasCurrent t x.file x.index copy h → HasSpanBelow id r k x bytes h (extent_size k.shape x.index) image

-- ---- laws

-- While a span is written to some copies, however torn, the disks hold group k with the span's cells Free, by tables that describe some group g of its shape.
abbrev pub WritingHolds : Type 0
WritingHolds =
    (id : ℕ) (r : Status) (t : Tables) (g k : Group) (x : Span) (targets : List Target) (old new : Image) → AreTables t → IsTrue (is_shape g.shape) → HaveGroup r t g
    → k.shape ≡ g.shape → FitsIn (k ∷ []) x → AreCopiesIn id t x targets old → ChangesOnly (RangesOf k.shape x targets) old new → HoldsIn id r t k old
    → HoldsIn id r t (freed x k) new

-- Once each current copy has the bytes, they hold it with the cells known.
abbrev pub SettlingHolds : Type 0
SettlingHolds =
    (id : ℕ) (r : Status) (t : Tables) (k : Group) (x : Span) (bytes : List ℕ) (image : Image) → AreTables t → IsTrue (is_shape k.shape) → FitsIn (k ∷ []) x
    → HoldsIn id r t (freed x k) image → CurrentHaveSpan id r t k x bytes image → HoldsIn id r t (settled x bytes k) image

-- What they have of an extent at a home that lies apart from the copies that are written, they have there still.
abbrev pub WritingAgrees : Type 0
WritingAgrees =
    (id : ℕ) (r : Status) (t : Tables) (k : Group) (x : Span) (targets : List Target) (f i : ℕ) (h : Home) (end : ℕ) (old new : Image) → AreUserHomes k.shape t → FitsIn (k ∷ []) x
    → AreCopiesIn id t x targets old → ((y : Target) → IsAmong targets y → y.home.disk ≡ h.disk → AreApart y.home.unit (units_of k.shape.step x.index) h.unit (units_of k.shape.step i))
    → ChangesOnly (RangesOf k.shape x targets) old new → AgreesBelow id r k f i h end old → AgreesBelow id r k f i h end new
