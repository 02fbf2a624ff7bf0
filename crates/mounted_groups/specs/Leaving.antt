-- What a mount leaves on the disks until its group's record is written anew, and once it is.
use Rattle.std.specs.Prelude.{◌≡◌, ℕ, ◌+◌, ◌*◌, ◌<◌, ◌≤◌, IsSome, true, List, None, [], ◌∷◌}
use Rattle.bay.specs.Image.{Same}
use Rattle.bay.specs.Moments.{LeavesOnly, NowOnly, Runs}
use Rattle.bay.specs.State.{BayState}
use Rattle.asm_group.specs.Group.{Group}
use Rattle.asm_group.specs.Names.{Bytes, is_same_name}
use Rattle.asm_formats.specs.Among.{IsAmong}
use Rattle.asm_images.specs.Kept.{Kept}
use Rattle.group_engine.specs.Commits.{StandsIn, turns_at_most}
use Rattle.group_engine.specs.Frames.{SparesOtherIds}
use Rattle.group_engine.specs.Mounts.{MountedGroup, Mounts}
use Rattle.group_engine.specs.Own.{KeepsGroup}
use Rattle.group_recovery.specs.Mounting.{Allows}
use Rattle.group_recovery.specs.Recovered.{ChangesMembers, IsMeant, StoodFor}
use Rattle.group_recovery.specs.declared.error.MountError.{MountError}
use Rattle.group_recovery.specs.declared.error.MountError.TheVariants as error
use Rattle.group_recovery.specs.declared.quorum.MountOption.{MountOption}
use Rattle.group_recovery.specs.declared.quorum.Quorate.{Quorate}
use Rattle.mounted_groups.specs.Mounting.{WasQuorate}

-- ---- at each moment

-- Calls on n slots claim the group that was read, and may write its record anew.
pub record ClaimsGroup (n : ℕ) (q : Quorate) (s t : BayState) : Type 0 where
  -- each image of each moment may stand for the groups that each image might stand for before, and for no others
  pub moments : (groups : List Group) → StoodFor q groups s → LeavesOnly s t (Allows q.id groups)
  -- each disk that changes is a member of its id before and after
  pub members : Runs (λ slot. slot < n) (ChangesMembers q.id) s t
  -- so those of other ids stay
  pub others : Runs (λ slot. slot < n) (SparesOtherIds q.id) s t

-- What calls of a mount leave that was refused: nothing was written, or the group was read and claimed.
pub data LeavesClaimed {B : Type 0} (state : B → BayState) (name : Bytes) (n : ℕ) (held : List ℕ) (option : MountOption) (s t : BayState) : Type 0 where
  looked : Runs (λ slot. slot < n) Same s t → LeavesClaimed state name n held option s t
  claimed_group : (was : WasQuorate state name n held option s) → ClaimsGroup n was.quorum s t → LeavesClaimed state name n held option s t

-- ---- once the record is written

-- The group is mounted on the disks of n slots as they are, with no move on its way. The turns that it took, and those that commits may take,
-- are so many at most.
pub record IsMountedOn (most n : ℕ) (g : Group) (m : MountedGroup) (state : BayState) : Type 0 where
  pub kept : Kept
  pub mounts : Mounts n m state g kept
  pub turns : turns_at_most m ≤ most
  pub still : m.flight ≡ None

-- A group was read, and is mounted on the disks as they are.
pub record MountsOne {B : Type 0} (state : B → BayState) (name : Bytes) (n : ℕ) (held : List ℕ) (option : MountOption) (m : MountedGroup) (s t : BayState) : Type 0 where
  pub was : WasQuorate state name n held option s
  pub id : m.register.id ≡ was.quorum.id
  -- until it was read nothing was written
  pub looks : Runs (λ slot. slot < n) Same s (state was.later)
  pub claims : ClaimsGroup n was.quorum s t
  -- It is the group of the list that each image means: what was read of the disks is this group.
  pub mounts : (groups : List Group) (g : Group) → StoodFor was.quorum groups s → IsSome s.holds → IsAmong groups g
      → NowOnly (state was.later) (IsMeant was.quorum was.quorum.survey.value g) → IsMountedOn 65 n g m t
  -- if the list has one group, it is that one
  pub only : (g : Group) → StoodFor was.quorum (g ∷ []) s → IsSome s.holds → IsMountedOn 65 n g m t

-- At a moment of a mount, when the bay was `at`, a group was mounted on the disks as they were. It went on from there, and is mounted.
pub record WasMounted {B : Type 0} (state : B → BayState) (name : Bytes) (n : ℕ) (held : List ℕ) (option : MountOption) (m : MountedGroup) (s t : BayState) : Type 0 where
  pub group : MountedGroup
  pub at : B
  pub one : MountsOne state name n held option group s (state at)
  pub since : KeepsGroup group m (state at) t
  -- since then each image of each moment is held for the group that was mounted, and for no other
  pub moments : (g : Group) (is : IsMountedOn 65 n g group (state at)) → LeavesOnly (state at) t (StandsIn n group.register.id (g ∷ []) is.kept)
  -- over the whole mount each disk that changes is a member of the group's id before and after
  pub members : (g : Group) → IsMountedOn 65 n g group (state at) → Runs (λ slot. slot < n) (ChangesMembers group.register.id) s t
  -- It is mounted on the disks as they are. Each of 64 copies that were brought up may have cost two turns.
  pub now : (g : Group) → IsMountedOn 65 n g group (state at) → IsMountedOn (65 + 2 * 64) n g m t

-- Where the images stand for no group under the id, none is mounted.
abbrev pub NothingIsMounted : {B : Type 0} → (B → BayState) → BayState → BayState → Type 0
NothingIsMounted {B} state s t =
    (name : Bytes) (n : ℕ) (held : List ℕ) (option : MountOption) (m : MountedGroup) (mounts : MountsOne state name n held option m s t)
    → StoodFor mounts.was.quorum [] s → IsSome s.holds → ⊥

-- Of the groups for which the images stand under the id that was read one has the name that was asked for.
abbrev pub ReadsNamed : {B : Type 0} → (B → BayState) → BayState → Type 0
ReadsNamed {B} state s =
    (name : Bytes) (n : ℕ) (held : List ℕ) (option : MountOption) (was : WasQuorate state name n held option s) (groups : List Group) → Runs (λ slot. slot < n) Same s (state was.later)
    → StoodFor was.quorum groups s → IsSome s.holds → (g : Group) × IsAmong groups g × (is_same_name g.name name ≡ true)

-- ---- refusals

-- A mount that was refused behind its record: at a moment of it, when the bay was `at`, a group was mounted on the disks as they were. Since then
-- each image of each moment is held for it alone.
pub record LeavesMounted {B : Type 0} (state : B → BayState) (name : Bytes) (n : ℕ) (held : List ℕ) (option : MountOption) (s t : BayState) : Type 0 where
  pub group : MountedGroup
  pub at : B
  pub one : MountsOne state name n held option group s (state at)
  pub moments : (g : Group) (is : IsMountedOn 65 n g group (state at)) → LeavesOnly (state at) t (StandsIn n group.register.id (g ∷ []) is.kept)
  -- over the whole mount each disk that changes is a member of the group's id before and after
  pub members : (g : Group) → IsMountedOn 65 n g group (state at) → Runs (λ slot. slot < n) (ChangesMembers group.register.id) s t

-- What a mount leaves that was refused before or behind its record: at most a claim, or a group that was mounted and is lost.
pub data LeavesLost {B : Type 0} (state : B → BayState) (name : Bytes) (n : ℕ) (held : List ℕ) (option : MountOption) (s t : BayState) : Type 0 where
  before_record : LeavesClaimed state name n held option s t → LeavesLost state name n held option s t
  behind_record : LeavesMounted state name n held option s t → LeavesLost state name n held option s t

-- Where a mount is refused for what was found or read, nothing was written, and where a majority is wanting, at most a claim. A group that is dead, or
-- for which memory is wanting, may also have been lost behind its record.
abbrev pub LeavesRefused : {B : Type 0} → (B → BayState) → Bytes → ℕ → List ℕ → MountOption → BayState → BayState → MountError → Type 0
LeavesRefused {B} state name n held option s t (error.NoMajority seen need) = LeavesClaimed state name n held option s t
LeavesRefused {B} state name n held option s t (error.Dead slot disk) = LeavesLost state name n held option s t
LeavesRefused {B} state name n held option s t error.NoMemory = LeavesLost state name n held option s t
LeavesRefused {B} state name n held option s t _ = Runs (λ slot. slot < n) Same s t
