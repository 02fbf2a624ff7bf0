-- The directory copies that a mount brings up.
use Rattle.std.specs.Prelude.{◌≡◌, ◌⊎◌, ℕ, ◌+◌, ◌*◌, ◌^◌, ◌<◌, ◌≤◌, ◌==◌, ◌&&◌, ◌||◌, Bool, true, false, List, [], ◌∷◌, get_or, if◌then◌else◌, OnOk, Result, Some, None}
use Rattle.bay.specs.Counts.{Rose}
use Rattle.bay.specs.Moments.{LeavesOnly}
use Rattle.bay.specs.State.{BayState}
use Rattle.asm_group.specs.Group.{Group}
use Rattle.refusal_lines.specs.declared.refusal.Refusal.{Refusal}
use Rattle.asm_formats.specs.Regions.{has_region}
use Rattle.asm_formats.specs.Sets.{has_bit}
use Rattle.asm_formats.specs.Status.{Status}
use Rattle.asm_images.specs.Kept.{Kept}
use Rattle.group_engine.specs.Commits.{StandsIn, turns_at_most}
use Rattle.group_engine.specs.Copying.{MountsLater, StandThrough}
use Rattle.group_engine.specs.Mounts.{IsMounted, IsReady, IsWhole, MountedGroup, Mounts}
use Rattle.group_engine.specs.Own.{KeepsGroup}
use Rattle.group_engine.specs.declared.attached.Attached.{Attached}
use Rattle.mounted_groups.specs.Clearing.{WorksOnGroup}
use Rattle.status_register.specs.Holders.{is_of}
use Rattle.status_register.specs.declared.member.Member.{Member}

-- the record names the directory copy of the disk
abbrev pub has_named_copy : Status → Member → Bool
has_named_copy r m = has_bit r.directories m.number && is_of r.entries m

-- it names the one of a disk of this number, which is among these
abbrev pub is_named_in : Status → List Member → ℕ → Bool
is_named_in r [] d = false
is_named_in r (m ∷ ms) d = if has_named_copy r m then (d == m.number || is_named_in r ms d) else is_named_in r ms d

-- the set has the numbers of these disks whose copies the record names
abbrev pub HasNamedCopies : Status → List Member → ℕ → Type 0
HasNamedCopies r ms set = (d : ℕ) → d < 64 → has_bit set d ≡ is_named_in r ms d

-- At a moment of a mount, when the bay was `at`, the group stood with the directory copy of a disk: its record named it, and each copy that
-- the record named had the content. The group went on from there.
pub record StoodWith {B : Type 0} (state : B → BayState) (d : ℕ) (m : MountedGroup) (t : BayState) : Type 0 where
  pub group : MountedGroup
  pub at : B
  pub named : has_bit group.register.value.directories d ≡ true
  pub whole : IsWhole group
  pub ready : IsReady group (state at)
  pub since : KeepsGroup group m (state at) t

-- The directory copy of a disk is brought up, where the disk is attached with a whole directory region, or its slot failed.
abbrev pub IsBrought : {B : Type 0} → (B → BayState) → MountedGroup → ℕ → MountedGroup → BayState → BayState → Type 0
IsBrought {B} state old d new s t =
    (a : Attached) → get_or old.disks d None ≡ Some a → has_region old.catalog.shape.dir_blocks a.size ≡ true
    → Rose (s.faults a.slot) (t.faults a.slot) ⊎ StoodWith state d new t

-- so are those of the first disks that are in the set
abbrev pub AreBrought : {B : Type 0} → (B → BayState) → MountedGroup → ℕ → ℕ → MountedGroup → BayState → BayState → Type 0
AreBrought {B} state old set front new s t = (d : ℕ) → d < front → has_bit set d ≡ true → IsBrought state old d new s t

-- turns don't run out while directories are stored on so many disks, one after the other
abbrev pub TurnsLast : ℕ → MountedGroup → Type 0
TurnsLast calls m = turns_at_most m + 2 * calls < 2 ^ 64

-- at each moment of that each image is held for the group that was mounted
abbrev pub StandWhile : ℕ → MountedGroup → BayState → BayState → Type 0
StandWhile calls old s t = TurnsLast calls old → (n : ℕ) (g : Group) (kept : Kept) → Mounts n old s g kept → LeavesOnly s t (StandsIn n old.register.id (g ∷ []) kept)

-- it is mounted afterwards, with the same disks
abbrev pub MountsBehind : ℕ → MountedGroup → MountedGroup → BayState → BayState → Type 0
MountsBehind calls old new s t = TurnsLast calls old → (n : ℕ) (g : Group) (kept : Kept) → Mounts n old s g kept → (later : Kept) × (later.slots ≡ kept.slots) × Mounts n new t g later

-- ---- what the calls do

-- The directory copy of a disk is brought up.
pub record BringsCopyUp {B : Type 0} (state : B → BayState) (d : ℕ) (old : MountedGroup) (answer : Result (Unit {0}) Refusal) (new : MountedGroup) (s t : BayState) : Type 0 where
  pub works : WorksOnGroup old answer new s t
  pub brought : OnOk answer (IsBrought state old d new s t)
  -- at each moment each image stands for the group, and while it isn't dismounted it is mounted, with the same disks
  pub moments : StandThrough old s t
  pub mounts : IsMounted new → MountsLater old new s t
  -- the copy takes a turn, and costs another if it fails
  pub turns : turns_at_most new ≤ turns_at_most old + 2

-- The copies of the first disks in the set are brought up, where turns are left for so many calls.
pub record BringsCopiesUp {B : Type 0} (state : B → BayState) (set front calls : ℕ) (old : MountedGroup) (answer : Result (Unit {0}) Refusal) (new : MountedGroup) (s t : BayState) : Type 0 where
  pub works : WorksOnGroup old answer new s t
  pub brought : OnOk answer (AreBrought state old set front new s t)
  -- at each moment each image stands for the group, and while it isn't dismounted it is mounted, with the same disks
  pub moments : StandWhile calls old s t
  pub mounts : IsMounted new → MountsBehind calls old new s t
  -- each disk takes a turn at most, and its copy may cost another once it fails
  pub turns : turns_at_most new ≤ turns_at_most old + 2 * front
