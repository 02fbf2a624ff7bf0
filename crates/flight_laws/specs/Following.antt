-- A client's write to an extent whose copy is on its way to another home: the new copy follows.
use Rattle.std.specs.Prelude.{◌≡◌, ◌⊎◌, ℕ, ◌+◌, ◌*◌, ◌<◌, ◌≤◌, List, [], ◌∷◌, get_or, length, slice_index, take, Some, IsTrue}
use Rattle.std.specs.FinMap as maps
use Rattle.bay.specs.Image.{ChangesOnly, Image, Puts, Range}
use Rattle.bay.specs.Moments.{Ends, NowOnly}
use Rattle.bay.specs.State.{BayState}
use Rattle.asm_group.specs.Group.{Known, Free, File, Group}
use Rattle.asm_group.specs.Shape.{is_shape}
use Rattle.asm_formats.specs.Among.{IsAmong}
use Rattle.asm_formats.specs.Items.{Home}
use Rattle.asm_formats.specs.Status.{Status}
use Rattle.asm_images.specs.Bridge.{disks_in}
use Rattle.asm_images.specs.Copies.{is_kept}
use Rattle.asm_images.specs.Kept.{Kept}
use Rattle.asm_images.specs.Members.{Member, all_members, byte}
use Rattle.asm_images.specs.Spans.{FitsIn, Span, freed, settled}
use Rattle.catalog_tables.specs.Tables.{AreTables, Tables}
use Rattle.group_engine.specs.declared.flight.Flight.{Flight}
use Rattle.group_engine.specs.Becoming.{HoldsIn}
use Rattle.group_engine.specs.Mounts.{MountedGroup, Mounts, slot_at}
use Rattle.flight_laws.specs.Agreeing.{AgreesBelow}
use Rattle.flight_laws.specs.Elsewhere.{IsUserHome}
use Rattle.flight_laws.specs.Filling.{KnowsByte}
use Rattle.flight_laws.specs.Flying.{CopiedAgree}

-- Group h has the shape of g, and each known cell of it is one of g.
pub record KnowsLess (g h : Group) : Type 0 where
  pub shape : h.shape ≡ g.shape
  pub cells : (k o b : ℕ) (file : File) → maps.get h.files k ≡ Some file → get_or file.cells o Free ≡ Known b → KnowsByte g k o b file.stripe

-- at the home the image has the bytes of the span that lie below an end of the extent, on each member that the record keeps as the home's disk
abbrev pub HasSpanBelow : (id : ℕ) → Status → Group → Span → List ℕ → Home → (end : ℕ) → Image → Type 0
HasSpanBelow id r g x bytes h end image =
    (slots inner : ℕ) (k : Member) → inner < x.len → x.from + inner < end → IsAmong (all_members id (disks_in slots image)) k → IsTrue (is_kept r h.disk k.header)
    → byte (disks_in slots image) k.slot (h.unit * g.shape.au + (x.from + inner)) ≡ slice_index bytes inner

-- ---- fewer cells

-- Where fewer cells are known, as much is held, and as much agrees.
abbrev pub FewerCellsHold : Type 0
FewerCellsHold = (id : ℕ) (r : Status) (t : Tables) (g h : Group) (image : Image) → AreTables t → KnowsLess g h → HoldsIn id r t g image → HoldsIn id r t h image

abbrev pub FewerCellsAgree : Type 0
FewerCellsAgree =
    (id : ℕ) (r : Status) (g h : Group) (f i : ℕ) (home : Home) (end : ℕ) (image : Image) → KnowsLess g h → AgreesBelow id r g f i home end image → AgreesBelow id r h f i home end image

-- A group knows less with a span Free.
abbrev pub FreedKnowsLess : Type 0
FreedKnowsLess = (x : Span) (g : Group) → KnowsLess g (freed x g)

-- ---- a span of the extent

-- While bytes change at the home from the span's first on, no more than the span has, what agrees with its cells Free agrees still.
abbrev pub SpanAgrees : Type 0
SpanAgrees =
    (id : ℕ) (r : Status) (g : Group) (x : Span) (h : Home) (end slot count : ℕ) (old new : Image) → IsTrue (is_shape g.shape) → FitsIn (g ∷ []) x → IsUserHome g.shape h
    → count ≤ x.len → ChangesOnly (Range slot (h.unit * g.shape.au + x.from) count) old new
    → AgreesBelow id r (freed x g) x.file x.index h end old → AgreesBelow id r (freed x g) x.file x.index h end new

-- With its bytes there, it agrees once the cells are known.
abbrev pub SettledAgrees : Type 0
SettledAgrees =
    (id : ℕ) (r : Status) (g : Group) (x : Span) (bytes : List ℕ) (h : Home) (end : ℕ) (image : Image) → IsTrue (is_shape g.shape) → FitsIn (g ∷ []) x
    → AgreesBelow id r (freed x g) x.file x.index h end image → HasSpanBelow id r g x bytes h end image → AgreesBelow id r (settled x bytes g) x.file x.index h end image

-- What agrees of another extent does so in any case.
abbrev pub SettledAgreesBeside : Type 0
SettledAgreesBeside =
    (id : ℕ) (r : Status) (g : Group) (x : Span) (bytes : List ℕ) (f i : ℕ) (h : Home) (end : ℕ) (image : Image) → IsTrue (is_shape g.shape) → FitsIn (g ∷ []) x
    → (f ≡ x.file → i ≡ x.index → ⊥) → AgreesBelow id r (freed x g) f i h end image → AgreesBelow id r (settled x bytes g) f i h end image

-- ---- the move that is on its way

-- A write to the extent, of which the new copy took so many bytes: all, or those below what was copied. While it isn't acknowledged the group is mounted with its span Free.
pub record TakesWrite (g : Group) (f : Flight) (x : Span) (bytes : List ℕ) (count : ℕ) : Type 0 where
  pub shape : IsTrue (is_shape g.shape)
  pub fits : FitsIn (g ∷ []) x
  pub file : x.file ≡ f.x.file
  pub index : x.index ≡ f.x.index
  pub len : x.len ≡ length bytes
  pub took : (count ≡ length bytes) ⊎ (f.copied ≤ x.from + count)

-- Once it took them, what was copied agrees with the cells that are known then.
abbrev pub FollowingAgrees : BayState → BayState → Type 0
FollowingAgrees s t =
    (n : ℕ) (m : MountedGroup) (g : Group) (kept : Kept) (f : Flight) (x : Span) (bytes : List ℕ) (count slot : ℕ) → Mounts n m s (freed x g) kept → TakesWrite g f x bytes count
    → slot_at m.disks f.to.disk ≡ Some slot → IsUserHome m.catalog.shape f.to → NowOnly s (CopiedAgree m (freed x g) f)
    → Ends (Puts slot (f.to.unit * m.catalog.shape.au + x.from) (take count bytes)) s t → NowOnly t (CopiedAgree m (settled x bytes g) f)
