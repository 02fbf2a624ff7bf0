-- Another size of a file: what is committed, and why it doesn't get it.
use Rattle.std.specs.Prelude.{◌≡◌, ◌⊎◌, ◌↔◌, ℕ, ◌<◌, false, List, IsTrue}
use Rattle.bay.specs.State.{BayState}
use Rattle.asm_group.specs.Names.{Path}
use Rattle.asm_group.specs.declared.PendingKind.TheVariants.{Grow}
use Rattle.asm_base.specs.Records.{DirectoryRecord}
use Rattle.refusal_lines.specs.declared.refusal.DiskRef.{DiskRef}
use Rattle.refusal_lines.specs.declared.refusal.Refusal.{Refusal}
use Rattle.refusal_lines.specs.declared.refusal.Refusal.TheVariants as cause
use Rattle.asm_formats.specs.Items.{Key}
use Rattle.asm_placement.specs.Layout.{has_extent_by_size}
use Rattle.file_extents.specs.catalog_tables.Changing.{IsAfter}
use Rattle.file_extents.specs.catalog.FilePlans.{IsSizePlan}
use Rattle.file_extents.specs.catalog_tables.Tables.{Catalogued}
use Rattle.file_extents.specs.group_engine.Commits.{StatusCause}
use Rattle.file_extents.specs.group_engine.Mounts.{IsMounted, IsWhole, MountedGroup}
use Rattle.file_extents.specs.group_engine.Own.{IsSameGroup}
use Rattle.file_extents.specs.Beginning.{Begins, IsGivenBack}
use Rattle.file_extents.specs.Rows.{SpaceCause}
use Rattle.file_extents.specs.declared.rows.NewExtents.{NewExtents}
use Rattle.group_contents.specs.Creating.{RoomCause}
use Rattle.group_contents.specs.Files.{AtFile, IsOpened, LostIn, WriteCause, are_sectors}
use Rattle.group_contents.specs.declared.opening.OpenFile.{OpenFile}

-- ---- what is committed

-- the file got this size by a commit
pub record SetsSize (before : MountedGroup) (file size : ℕ) (after : MountedGroup) : Type 0 where
  pub put : List DirectoryRecord
  pub gone : List Key
  pub plan : IsSizePlan before.catalog file size put gone
  pub applied : IsAfter before.catalog.tables put gone after.catalog.tables

-- a commit gave the file this size, and left this group
abbrev pub IsSized : ℕ → ℕ → MountedGroup → Type 0
IsSized file size after = (before : MountedGroup) × SetsSize before file size after

-- on the group as it was a commit gave the file this size; what others left behind it is not said
abbrev pub IsCut : MountedGroup → ℕ → ℕ → Type 0
IsCut before file size = (between : MountedGroup) × SetsSize before file size between

-- The file at the path had the size, and the group stays; or it got it: a smaller one by a commit on the group as it was, a greater one by
-- the commit that left the group.
pub record ResizesFile (m : MountedGroup) (path : Path) (size : ℕ) (after : MountedGroup) : Type 0 where
  pub file : OpenFile
  pub opened : IsOpened m.catalog.tables path file
  pub same : size ≡ file.size → after ≡ m
  pub cut : size < file.size → IsCut m file.file size
  pub grown : file.size < size → IsSized file.file size after

-- ---- refusals

-- The extents that a file gets behind those that it has by its size.
pub record AreMore (c : Catalogued) (file : OpenFile) (extents : NewExtents) : Type 0 where
  pub number : extents.file ≡ file.file
  pub copies : extents.copies ≡ file.copies
  pub first : (i : ℕ) → (i < extents.first) ↔ IsTrue (has_extent_by_size file.stripe c.shape.au c.shape.step file.size i)

-- Why a file can't have a greater size, before anything is changed: one of its extents that has bytes behind its size has no usable
-- copy, or for want of blocks.
abbrev pub GrowCause : MountedGroup → OpenFile → Refusal → Type 0
GrowCause m file (cause.Lost x) = LostIn m file x
GrowCause m file refusal = RoomCause m.catalog refusal

-- There was no choice of homes for one of these extents by the group to which the call led, and the growth was given back.
pub record LacksLater (old : MountedGroup) (extents : NewExtents) (new : MountedGroup) (refusal : Refusal) : Type 0 where
  pub between : MountedGroup
  pub same : IsSameGroup old between
  pub whole : IsWhole between
  pub space : SpaceCause between extents refusal
  pub given_back : IsGivenBack new

-- The growth had begun, and later there was no choice of homes for one of the extents that the file gets.
pub record LacksMore (old : MountedGroup) (extents : NewExtents) (new : MountedGroup) (refusal : Refusal) : Type 0 where
  pub begun : MountedGroup
  pub begins : Begins old Grow extents begun
  pub same : IsSameGroup old begun
  pub later : LacksLater begun extents new refusal

-- A growth was given back for a disk that failed, on a group that took calls: for want of space where there is no choice of homes for one of its extents, and
-- else for the fault; or it couldn't be given back.
abbrev pub IsFaultBack : MountedGroup → NewExtents → DiskRef → MountedGroup → BayState → BayState → Refusal → Type 0
IsFaultBack old extents by new s t refusal = (refusal ≡ cause.WriteFault by) ⊎ (IsMounted old × (LacksLater old extents new refusal ⊎ StatusCause old new s t refusal))

-- Why the extents of a growth that has begun aren't made: for want of space, or by a disk that failed; or the group was dismounted.
abbrev pub LaterCause : MountedGroup → NewExtents → MountedGroup → BayState → BayState → Refusal → Type 0
LaterCause old extents new s t refusal = LacksLater old extents new refusal ⊎ WriteCause old new s t refusal

-- the same of a growth that begins first
abbrev pub MoreCause : MountedGroup → NewExtents → MountedGroup → BayState → BayState → Refusal → Type 0
MoreCause old extents new s t refusal = LacksMore old extents new refusal ⊎ WriteCause old new s t refusal

-- Why a file doesn't get a greater size: before anything is changed, or then as its extents aren't made.
abbrev pub GrowthCause : MountedGroup → OpenFile → MountedGroup → BayState → BayState → Refusal → Type 0
GrowthCause old file new s t refusal = GrowCause old file refusal ⊎ ((extents : NewExtents) × AreMore old.catalog file extents × MoreCause old extents new s t refusal)

-- the size isn't whole sectors
abbrev pub SectorsCause : MountedGroup → ℕ → OpenFile → Refusal → Type 0
SectorsCause m size file cause.NotSectors = are_sectors m.catalog.shape size ≡ false
SectorsCause m size file _ = ⊥

-- why the file at a path doesn't get a size
abbrev pub ResizeCause : MountedGroup → Path → ℕ → MountedGroup → BayState → BayState → Refusal → Type 0
ResizeCause old path size new s t refusal =
    AtFile old path (λ file why. SectorsCause old size file why ⊎ GrowthCause old file new s t why) refusal ⊎ WriteCause old new s t refusal
