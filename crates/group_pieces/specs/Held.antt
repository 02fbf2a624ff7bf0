-- What the disks hold of a mounted group while bytes of its files are written.
use Rattle.std.specs.Prelude.{◌≡◌, ◌⊎◌, ⊤, ℕ, ◌≤◌, true, [], ◌∷◌, length, get_or, Some, None, IfOk, OnErr, OnOk, Result, Ok, Err}
use Rattle.bay.specs.Moments.{LeavesOnly, NowOnly}
use Rattle.bay.specs.State.{BayState}
use Rattle.asm_group.specs.Group.{Group}
use Rattle.asm_group.specs.Names.{Bytes}
use Rattle.asm_base.specs.declared.kinds.ExtentId.{ExtentId}
use Rattle.refusal_lines.specs.declared.refusal.Refusal.{Refusal}
use Rattle.refusal_lines.specs.declared.refusal.Refusal.TheVariants as cause
use Rattle.asm_formats.specs.Items.{Home}
use Rattle.asm_formats.specs.Regions.{reserved_units}
use Rattle.asm_formats.specs.Sets.{has_bit}
use Rattle.asm_placement.specs.Layout.{units_of}
use Rattle.asm_images.specs.Kept.{Kept, IsHeld}
use Rattle.asm_images.specs.Spans.{freed, settled}
use Rattle.asm_images.specs.WriteLaws.{AreApart}
use Rattle.record_laws.specs.catalog_tables.Rules.{homes_at, marks_of}
use Rattle.piece_laws.specs.Rewriting.{Rewrites}
use Rattle.record_laws.specs.group_of.Describing.{KeepsNames}
use Rattle.record_laws.specs.group_engine.declared.flight.Flight.{Flight}
use Rattle.record_laws.specs.group_engine.Commits.{StandsIn}
use Rattle.record_laws.specs.group_engine.Mounts.{IsMounted, MountedGroup, Mounts}
use Rattle.record_laws.specs.group_engine.Pending.{HasTurns, turns_with_faults}
use Rattle.group_pieces.specs.declared.writing.WriteError.{WriteError}
use Rattle.group_pieces.specs.Bytes.{UserBytes, WritesBytes}
use Rattle.group_pieces.specs.Copies.{HaveBut}
use Rattle.group_pieces.specs.Failing.{AreServing}
use Rattle.group_pieces.specs.Marking.{left_of}
use Rattle.group_pieces.specs.Usable.{FitsExtent, piece_of, places_at}

-- Where users' bytes alone changed, and each image is held for the group with other bytes in one file, this one is mounted.
abbrev pub BytesMount : BayState → BayState → Type 0
BytesMount s t =
    (n : ℕ) (m : MountedGroup) (g h : Group) (kept : Kept) → Mounts n m s g kept → Rewrites g h → WritesBytes m (UserBytes m) s t
    → NowOnly t (IsHeld n m.register.id (h ∷ []) kept) → Mounts n m t h kept

-- ---- a piece of an extent

-- the group with the cells of so many bytes from an inner byte of an extent on Free
abbrev pub piece_freed : ExtentId → ℕ → ℕ → Group → Group
piece_freed x inner n g = freed (piece_of x inner n) g

-- the group with these bytes there
abbrev pub piece_written : ExtentId → ℕ → Bytes → Group → Group
piece_written x inner bytes g = settled (piece_of x inner (length bytes)) bytes g

-- The usable copies of an extent were written, on a group that is mounted: it is held with the piece's cells Free, and then with the bytes.
pub record WritesHeld (m : MountedGroup) (x : ExtentId) (inner : ℕ) (bytes : Bytes) (answer : Result ℕ WriteError) (s t : BayState) : Type 0 where
  -- each image of each moment is held for the group with the piece's cells Free
  pub moments : (n : ℕ) (g : Group) (kept : Kept) → Mounts n m s g kept → LeavesOnly s t (IsHeld n m.register.id (piece_freed x inner (length bytes) g ∷ []) kept)
  -- this group is mounted in the end, whatever the answer is
  pub mounted : (n : ℕ) (g : Group) (kept : Kept) → Mounts n m s g kept → Mounts n m t (piece_freed x inner (length bytes) g) kept
  -- where no copy is left behind, the group with the bytes is
  pub known : IfOk answer (λ failed. left_of m x inner failed ≡ 0 → (n : ℕ) (g : Group) (kept : Kept) → Mounts n m s g kept → Mounts n m t (piece_written x inner bytes g) kept)

-- ---- what is recorded

-- The group is mounted with the cells of a piece Free, and each of its usable copies, but those on disks that failed, has the bytes on each
-- image. Its turns don't run out.
pub record IsWritten (m : MountedGroup) (x : ExtentId) (inner failed : ℕ) (s : BayState) (n : ℕ) (g : Group) (kept : Kept) (bytes : Bytes) : Type 0 where
  pub mounts : Mounts n m s (piece_freed x inner (length bytes) g) kept
  pub piece : FitsExtent m.catalog.shape x.index inner (length bytes)
  pub has : NowOnly s (HaveBut (places_at m x inner) failed bytes)
  pub serving : AreServing m.register.value.entries failed
  pub turns : HasTurns m

-- Then what failed is recorded: each image of each moment is held with the piece's cells Free, and once it is done the group is mounted
-- with the bytes.
pub record RecordsHeld (m : MountedGroup) (x : ExtentId) (inner failed : ℕ) (answer : Result (Unit {0}) Refusal) (new : MountedGroup) (s t : BayState) : Type 0 where
  pub moments : (n : ℕ) (g : Group) (kept : Kept) (bytes : Bytes) → IsWritten m x inner failed s n g kept bytes
      → LeavesOnly s t (StandsIn n m.register.id (piece_freed x inner (length bytes) g ∷ []) kept)
  pub done : OnOk answer ((n : ℕ) (g : Group) (kept : Kept) (bytes : Bytes) → IsWritten m x inner failed s n g kept bytes
      → (later : Kept) × (later.slots ≡ kept.slots) × Mounts n new t (piece_written x inner bytes g) later)

-- Disks that serve are taken Offline: each image of each moment is held for the group that is mounted, which stays so.
pub record FailedHeld (m : MountedGroup) (failed : ℕ) (answer : Result (Unit {0}) Refusal) (new : MountedGroup) (s t : BayState) : Type 0 where
  pub moments : (n : ℕ) (g : Group) (kept : Kept) → Mounts n m s g kept → AreServing m.register.value.entries failed → HasTurns m → LeavesOnly s t (StandsIn n m.register.id (g ∷ []) kept)
  pub done : OnOk answer ((n : ℕ) (g : Group) (kept : Kept) → Mounts n m s g kept → AreServing m.register.value.entries failed → HasTurns m
      → (later : Kept) × (later.slots ≡ kept.slots) × Mounts n new t g later)

-- ---- the whole write

-- The new copy of a move lies behind the reserved units, where no home lies but of copies that are marked stale.
pub record IsSpareCopy (m : MountedGroup) (f : Flight) : Type 0 where
  pub reserved : reserved_units m.catalog.shape ≤ f.to.unit
  pub apart : (g i copy : ℕ) (h : Home) → get_or (homes_at m.catalog.tables g i) copy None ≡ Some h → h.disk ≡ f.to.disk
      → AreApart f.to.unit (units_of m.catalog.shape.step f.x.index) h.unit (units_of m.catalog.shape.step i) ⊎ (has_bit (marks_of m.catalog.tables g i) copy ≡ true)

-- so does that of the move that is on its way
abbrev pub FlightIsSpare : MountedGroup → Type 0
FlightIsSpare m = (f : Flight) → m.flight ≡ Some f → IsSpareCopy m f

-- The group is mounted, the new copy of the move that is on its way is spare, and turns don't run out.
pub record TakesBytes (n : ℕ) (m : MountedGroup) (s : BayState) (g : Group) (kept : Kept) : Type 0 where
  pub mounts : Mounts n m s g kept
  pub spare : FlightIsSpare m
  pub turns : HasTurns m

-- a group takes calls still once a piece is written, and where each copy failed or none was usable
abbrev pub PieceStays : Result ℕ Refusal → MountedGroup → Type 0
PieceStays (Ok failed) new = IsMounted new
PieceStays (Err (cause.WriteFault by)) new = IsMounted new
PieceStays (Err (cause.Lost x)) new = IsMounted new
PieceStays (Err _) new = ⊤

-- A piece was written, on a group that is mounted.
pub record PieceHeld (m : MountedGroup) (x : ExtentId) (inner : ℕ) (bytes : Bytes) (answer : Result ℕ Refusal) (new : MountedGroup) (s t : BayState) : Type 0 where
  -- each image of each moment is held for the group with the piece's cells Free
  pub moments : (n : ℕ) (g : Group) (kept : Kept) → TakesBytes n m s g kept
      → LeavesOnly s t (StandsIn n m.register.id (piece_freed x inner (length bytes) g ∷ []) kept)
  -- once it is done, the group with the bytes is mounted
  pub done : OnOk answer ((n : ℕ) (g : Group) (kept : Kept) → TakesBytes n m s g kept → (later : Kept) × (later.slots ≡ kept.slots) × Mounts n new t (piece_written x inner bytes g) later)
  -- the new copy of the move that is on its way is spare still
  pub spare : IsMounted new → FlightIsSpare m → FlightIsSpare new
  -- where it was refused and the group takes calls, the one with the piece's cells Free is
  pub refused : IsMounted new → OnErr answer ((n : ℕ) (g : Group) (kept : Kept) → Mounts n m s g kept → Mounts n new t (piece_freed x inner (length bytes) g) kept)
  -- it takes no calls only where it was dismounted, or memory was short
  pub mounted : PieceStays answer new
  -- turns are taken by faults alone
  pub turns : IsMounted new → turns_with_faults new ≤ turns_with_faults m
  -- heads, names, templates and settings stay
  pub names : IsMounted new → KeepsNames m.catalog.tables new.catalog.tables
