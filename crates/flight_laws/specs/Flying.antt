-- A copy that is on its way to another home, and what of it was copied.
use Rattle.std.specs.Prelude.{◌≡◌, ℕ, ◌+◌, ◌*◌, ◌<◌, ◌≤◌, ◌^◌, List, length, Some, IsTrue}
use Rattle.bay.specs.Image.{Image, Puts}
use Rattle.bay.specs.Moments.{Ends, NowOnly}
use Rattle.bay.specs.State.{BayState}
use Rattle.asm_group.specs.Group.{Group}
use Rattle.asm_formats.specs.Items.{Home, Key}
use Rattle.asm_base.specs.Records.{DirectoryRecord}
use Rattle.asm_images.specs.Describing.{extent_size}
use Rattle.asm_images.specs.Kept.{Kept}
use Rattle.asm_images.specs.Spans.{Span}
use Rattle.catalog.specs.ExtentPlans.{home_at, with_marks_changed, with_move}
use Rattle.catalog.specs.Plans.{IsPlan}
use Rattle.catalog_tables.specs.Rules.{is_on_regular}
use Rattle.piece_laws.specs.Targets.{AgreesIn}
use Rattle.group_engine.specs.declared.flight.Flight.{Flight}
use Rattle.group_engine.specs.Commits.{LeadsTo}
use Rattle.group_engine.specs.Mounts.{MountedGroup, Mounts, slot_at}
use Rattle.flight_laws.specs.Agreeing.{AgreesBelow}
use Rattle.flight_laws.specs.Elsewhere.{IsUserHome}

-- the image has at the new home the bytes of the known cells that were copied
abbrev pub CopiedAgree : MountedGroup → Group → Flight → Image → Type 0
CopiedAgree m g f image = AgreesBelow m.register.id m.register.value g f.x.file f.x.index f.to f.copied image

-- Each image does, where a move is on its way.
abbrev pub FlightAgrees : MountedGroup → BayState → Group → Type 0
FlightAgrees m s g = (f : Flight) → m.flight ≡ Some f → NowOnly s (CopiedAgree m g f)

-- the bytes of the extent behind those that were copied
abbrev pub behind_copied : Flight → ℕ → Span
behind_copied f len = record { file = f.x.file; index = f.x.index; from = f.copied; len = len }

-- the move once so many bytes more were copied
abbrev pub further_by : ℕ → Flight → Flight
further_by len f = record f { copied = f.copied + len }

-- ---- laws

-- Bytes that agree with the known cells of an extent from `end` on, of a group of the same shape, agree at a home once they are put there.
abbrev pub PutAgrees : BayState → BayState → Type 0
PutAgrees s t =
    (n : ℕ) (m : MountedGroup) (g k : Group) (kept : Kept) (f i : ℕ) (h : Home) (end slot : ℕ) (bytes : List ℕ) → Mounts n m s g kept → k.shape ≡ g.shape
    → slot_at m.disks h.disk ≡ Some slot → IsUserHome m.catalog.shape h → NowOnly s (AgreesBelow m.register.id m.register.value k f i h end)
    → AgreesIn k (record { file = f; index = i; from = end; len = length bytes }) bytes → Ends (Puts slot (h.unit * m.catalog.shape.au + end) bytes) s t
    → NowOnly t (AgreesBelow m.register.id m.register.value k f i h (end + length bytes))

-- Of a move that begins nothing was copied.
abbrev pub BeginningAgrees : BayState → Type 0
BeginningAgrees s = (m : MountedGroup) (g : Group) (f : Flight) → f.copied ≡ 0 → NowOnly s (CopiedAgree m g f)

-- So bytes that agree with the known cells behind those that were copied, once they are put at the new home, are copied too.
abbrev pub CopyingGoesOn : BayState → BayState → Type 0
CopyingGoesOn s t =
    (n : ℕ) (m : MountedGroup) (g : Group) (kept : Kept) (f : Flight) (slot : ℕ) (bytes : List ℕ) → Mounts n m s g kept
    → slot_at m.disks f.to.disk ≡ Some slot → IsUserHome m.catalog.shape f.to → NowOnly s (CopiedAgree m g f) → AgreesIn g (behind_copied f (length bytes)) bytes
    → Ends (Puts slot (f.to.unit * m.catalog.shape.au + f.copied) bytes) s t → NowOnly t (CopiedAgree m g (further_by (length bytes) f))

-- Once the whole extent was copied, the commit of the move leads from the group to the group itself.
abbrev pub FlightLeadsOn : BayState → Type 0
FlightLeadsOn s =
    (n : ℕ) (m : MountedGroup) (put : List DirectoryRecord) (gone : List Key) (g : Group) (kept : Kept) (f : Flight) → Mounts n m s g kept
    → NowOnly s (CopiedAgree m g f) → extent_size g.shape f.x.index ≤ f.copied
    → IsPlan m.catalog put gone (with_move m.catalog.tables f.x.file f.x.index f.copy f.to) → IsTrue (is_on_regular m.register.value.entries (Some f.to))
    → m.register.turn + 1 < 2 ^ 64 → LeadsTo n m put gone s g g kept

-- So does the commit that clears its mark, where the copy is brought up at the home that it has.
abbrev pub FlightClearsOn : BayState → Type 0
FlightClearsOn s =
    (n : ℕ) (m : MountedGroup) (put : List DirectoryRecord) (gone : List Key) (g : Group) (kept : Kept) (f : Flight) → Mounts n m s g kept
    → NowOnly s (CopiedAgree m g f) → extent_size g.shape f.x.index ≤ f.copied
    → IsPlan m.catalog put gone (with_marks_changed m.catalog.tables f.x.file f.x.index 0 (2 ^ f.copy))
    → home_at m.catalog.tables f.x.file f.x.index f.copy ≡ Some f.to → m.register.turn + 1 < 2 ^ 64 → LeadsTo n m put gone s g g kept
