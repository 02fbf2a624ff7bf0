-- Why statements on disks of a mounted group are refused by their rules, before anything changes.
use Rattle.std.specs.Prelude.{◌≡◌, ◌⊎◌, ℕ, ◌<◌, ◌≤◌, ◌==◌, true, List, length, get_or, map, take}
use Rattle.refusal_lines.specs.declared.refusal.DiskRef.TheVariants as disk
use Rattle.refusal_lines.specs.declared.refusal.Refusal.{Refusal}
use Rattle.refusal_lines.specs.declared.refusal.Refusal.TheVariants as cause
use Rattle.asm_formats.specs.Sets.{has_bit}
use Rattle.asm_formats.specs.Status.{Entry}
use Rattle.record_laws.specs.group_engine.Mounts.{MountedGroup}
use Rattle.disk_modes.specs.declared.checking.Statement.{Statement}
use Rattle.disk_modes.specs.declared.checking.Statement.TheVariants as statement
use Rattle.disk_modes.specs.declared.dropping.DropDisk.{DropDisk}
use Rattle.disk_modes.specs.declared.losing.Counted.TheVariants as counted
use Rattle.disk_modes.specs.declared.records.NewModes.TheVariants as modes
use Rattle.disk_modes.specs.declared.sizes.Asked.{Asked}
use Rattle.disk_modes.specs.Directories.{DirectoriesCause}
use Rattle.disk_modes.specs.Effects.{AreNamedToDrop}
use Rattle.disk_modes.specs.Ends.{NeedsUnits}
use Rattle.disk_modes.specs.Finding.{HasAttachedDisks}
use Rattle.disk_modes.specs.Losing.{LosingCause}
use Rattle.disk_modes.specs.Modes.{GroupsCause, ModeStateCause, drop_as}
use Rattle.disk_modes.specs.Records.{entry_after}
use Rattle.disk_modes.specs.Sizes.{image_units, units_asked}
use Rattle.disk_modes.specs.Stops.{AreTakenAs}

-- ---- OFFLINE

-- OFFLINE of these disks is refused.
pub data OfflineRefused (m : MountedGroup) (disks : ℕ) (refusal : Refusal) : Type 0 where
  -- by the least that isn't Online
  not_online : ModeStateCause statement.Offline disks m.register.value.entries refusal → OfflineRefused m disks refusal
  -- they have all directory copies
  hold_copies : DirectoriesCause m.register.value.directories disks refusal → OfflineRefused m disks refusal
  -- by the first extent whose usable copies are all on them
  would_lose_extent : (attached : ℕ) → HasAttachedDisks m attached → LosingCause (counted.Usable attached) m.register.value.entries disks m.catalog refusal → OfflineRefused m disks refusal

-- ---- DROP

-- a set has this disk alone
abbrev pub HasDiskAlone : ℕ → ℕ → Type 0
HasDiskAlone set d = (k : ℕ) → k < 64 → has_bit set k ≡ (k == d)

-- refused by the mode of this disk
abbrev pub IsStateOf : Statement → ℕ → List Entry → Refusal → Type 0
IsStateOf of d es refusal = (alone : ℕ) × HasDiskAlone alone d × ModeStateCause of alone es refusal

-- Refused by the first disk of the statement whose mode its option doesn't take: with FORCE, where the set has it.
pub record IsFirstState (m : MountedGroup) (forced : ℕ) (disks : List DropDisk) (refusal : Refusal) : Type 0 where
  pub at : ℕ
  pub below : at < length disks
  pub one : DropDisk
  pub is : one ≡ get_or disks at one
  pub earlier : AreTakenAs m forced (take at disks)
  pub cause : IsStateOf (drop_as (has_bit forced one.disk)) one.disk m.register.value.entries refusal

-- Disks are dropped, these without FORCE and those with it. That is refused by what the group is without them.
pub data LeavesTooLittle (m : MountedGroup) (dropping forced : ℕ) (refusal : Refusal) : Type 0 where
  -- those with FORCE have all directory copies
  forced_hold_copies : DirectoriesCause m.register.value.directories forced refusal → LeavesTooLittle m dropping forced refusal
  -- by the first extent with all its current copies on those
  forced_would_lose : LosingCause counted.Current m.register.value.entries forced m.catalog refusal → LeavesTooLittle m dropping forced refusal
  -- the record behind the statement has too few regular failure groups with a disk that stays
  too_few : GroupsCause m.catalog.shape.kind
      (record m.register.value { entries = map (entry_after (modes.Dropped dropping forced)) m.register.value.entries }) refusal
      → LeavesTooLittle m dropping forced refusal

abbrev pub DropDisksCause : MountedGroup → List DropDisk → ℕ → ℕ → Refusal → Type 0
DropDisksCause m disks dropping forced refusal = IsFirstState m forced disks refusal ⊎ LeavesTooLittle m dropping forced refusal

-- DROP is refused. Of a disk that is named twice the last option holds.
abbrev pub DropRefused : MountedGroup → List DropDisk → Refusal → Type 0
DropRefused m disks refusal = (dropping : ℕ) × (forced : ℕ) × AreNamedToDrop disks dropping forced × DropDisksCause m disks dropping forced refusal

-- ---- RESIZE

-- the disk is to have so many units
abbrev pub asked_of : MountedGroup → Asked → ℕ → ℕ
asked_of m asked d = units_asked m.catalog.shape m.disks asked.size d

-- its image has so many
abbrev pub disk_image_units : MountedGroup → ℕ → ℕ
disk_image_units m d = image_units m.catalog.shape m.disks d

-- A disk is too small: its image has fewer units than it is to have, or else it needs more than these.
pub data IsTooSmall (m : MountedGroup) (asked : Asked) (d need : ℕ) : Type 0 where
  small_image : need ≡ asked_of m asked d → disk_image_units m d < need → IsTooSmall m asked d need
  small_size : asked_of m asked d ≤ disk_image_units m d → NeedsUnits m.catalog d need → asked_of m asked d < need → IsTooSmall m asked d need

-- refused, since this disk is too small
abbrev pub SizeCause : MountedGroup → Asked → ℕ → Refusal → Type 0
SizeCause m asked d (cause.TooSmall by need) = (by ≡ disk.Number d) × IsTooSmall m asked d need
SizeCause m asked d _ = ⊥

-- A disk isn't too small: its image has the units that it is to have, and it needs no more.
pub record IsLargeEnough (m : MountedGroup) (asked : Asked) (d : ℕ) : Type 0 where
  pub image : asked_of m asked d ≤ disk_image_units m d
  pub needed : (need : ℕ) → NeedsUnits m.catalog d need → need ≤ asked_of m asked d

-- each disk of the statement is large enough
abbrev pub AreLargeEnough : MountedGroup → Asked → Type 0
AreLargeEnough m asked = (d : ℕ) → d < 64 → has_bit asked.disks d ≡ true → IsLargeEnough m asked d

-- Refused by the least disk of the statement that is too small.
pub record IsFirstSmall (m : MountedGroup) (asked : Asked) (refusal : Refusal) : Type 0 where
  pub least : ℕ
  pub named : has_bit asked.disks least ≡ true
  pub earlier : (d : ℕ) → d < least → has_bit asked.disks d ≡ true → IsLargeEnough m asked d
  pub cause : SizeCause m asked least refusal

-- RESIZE is refused.
pub data ResizeRefused (m : MountedGroup) (asked : Asked) (refusal : Refusal) : Type 0 where
  -- by the least of the disks that doesn't serve
  not_serving : ModeStateCause statement.Resize asked.disks m.register.value.entries refusal → ResizeRefused m asked refusal
  -- by the least of the disks that is too small
  disk_too_small : IsFirstSmall m asked refusal → ResizeRefused m asked refusal
