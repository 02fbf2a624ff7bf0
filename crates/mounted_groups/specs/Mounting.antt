-- What a mount gives, and why it is refused.
use Rattle.std.specs.Prelude.{◌≡◌, ◌<◌, ◌≤◌, ℕ, Bool, true, false, List, [], ◌∷◌, set, replicate, Option, Some, None}
use Rattle.bay.specs.Image.{Same}
use Rattle.bay.specs.Moments.{Runs}
use Rattle.bay.specs.State.{BayState}
use Rattle.asm_group.specs.Names.{Bytes, is_same_name}
use Rattle.asm_formats.specs.Among.{IsAmong}
use Rattle.group_engine.specs.Making.{group_of_parts}
use Rattle.group_engine.specs.Mounts.{IsMounted, IsOwn, IsReady, IsWhole, MountedGroup}
use Rattle.group_engine.specs.declared.attached.Attached.{Attached}
use Rattle.group_engine.specs.Own.{KeepsGroup}
use Rattle.mounted_groups.specs.Bringing.{HasNamedCopies, IsBrought, is_named_in}
use Rattle.mounted_groups.specs.Clearing.{IsLostCause}
use Rattle.mounted_groups.specs.Holding.{IsHeldSlot}
use Rattle.group_recovery.specs.Founds.{FindCause, FoundDisks, IsFound, not_held}
use Rattle.group_recovery.specs.Quorum.{IsQuorate, QuorumCause}
use Rattle.group_recovery.specs.Recovering.{ArePartsOf, RecoverCause, is_named, name_in}
use Rattle.group_recovery.specs.declared.error.MountError.{MountError}
use Rattle.group_recovery.specs.declared.error.MountError.TheVariants as error
use Rattle.group_recovery.specs.declared.quorum.MountOption.{MountOption}
use Rattle.group_recovery.specs.declared.quorum.Quorate.{Quorate}
use Rattle.group_recovery.specs.declared.recovering.Parts.{Parts}
use Rattle.status_register.specs.declared.member.Member.{Member}

-- ---- the group of the parts that a mount gives

-- a disk's slot and size
abbrev pub attached_of : Member × ℕ → Attached
attached_of d = record { slot = d.0.slot; size = d.1 }

-- the disks in the places of their numbers
abbrev pub put_disks : List (Option Attached) → List (Member × ℕ) → List (Option Attached)
put_disks places [] = places
put_disks places (d ∷ ds) = put_disks (set places d.0.number (Some (attached_of d))) ds

abbrev pub by_number : List (Member × ℕ) → List (Option Attached)
by_number ds = put_disks (replicate 64 None) ds

-- each has the number of a disk
abbrev pub HaveDiskNumbers : List (Member × ℕ) → Type 0
HaveDiskNumbers ds = (d : Member × ℕ) → IsAmong ds d → d.0.number < 64

abbrev pub mounted_of : Parts → MountedGroup
mounted_of parts = group_of_parts parts.name parts.catalog parts.store parts.register (by_number parts.disks.items)

-- ---- what is mounted

-- A group of the name takes calls, and no slot that others hold is one of its disks'.
pub record IsMountedBy (name : Bytes) (held : List ℕ) (m : MountedGroup) (state : BayState) : Type 0 where
  pub mounted : IsMounted m
  pub named : is_same_name m.name name ≡ true
  pub own : (slot : ℕ) → IsOwn m slot → IsHeldSlot held slot → ⊥
  pub whole : IsWhole m
  pub ready : IsReady m state

-- ---- what is read

-- the disks that were found, without those in slots that others hold
abbrev pub free_disks : List ℕ → FoundDisks → FoundDisks
free_disks held found = record found { headed = not_held held found.headed }

-- The group was found by a search that wrote nothing, and is quorate in this state.
pub record WasQuorate {B : Type 0} (state : B → BayState) (name : Bytes) (n : ℕ) (held : List ℕ) (option : MountOption) (s : BayState) : Type 0 where
  pub found : FoundDisks
  pub between : B
  pub is : IsFound name n found s (state between)
  pub searched : Runs (λ slot. slot < n) Same s (state between)
  pub quorum : Quorate
  pub later : B
  pub quorate : IsQuorate option (free_disks held found) quorum (state later)

-- It is taken over, with this second: these are its parts in this state, and the set has the disks that were read whose directory copies
-- the record that was read names.
pub record IsTakenOver {B : Type 0} (state : B → BayState) (name : Bytes) (n : ℕ) (held : List ℕ) (option : MountOption) (now : ℕ) (m : MountedGroup) (set : ℕ)
    (s t : BayState) : Type 0 where
  pub was : WasQuorate state name n held option s
  pub parts : Parts
  pub are : ArePartsOf was.quorum now parts t
  pub group : m ≡ mounted_of parts
  pub named : HasNamedCopies was.quorum.survey.value was.quorum.survey.read set

-- The group that is mounted is the one that was taken over, in a state of the call. Of the directory copies that the record that was read
-- names those on disks that were read are brought up.
pub record IsRecovered {B : Type 0} (state : B → BayState) (name : Bytes) (n : ℕ) (held : List ℕ) (option : MountOption) (now : ℕ) (m : MountedGroup)
    (s t : BayState) : Type 0 where
  pub was : WasQuorate state name n held option s
  pub parts : Parts
  pub at : B
  pub are : ArePartsOf was.quorum now parts (state at)
  pub keeps : KeepsGroup (mounted_of parts) m (state at) t
  pub brought : (d : ℕ) → d < 64 → is_named_in was.quorum.survey.value was.quorum.survey.read d ≡ true → IsBrought state (mounted_of parts) d m s t

-- ---- causes

-- the first of the disks of the id has the name
abbrev pub has_group_name : FoundDisks → Bytes → Bool
has_group_name found name = is_named (name_in found.id found.headed) name

-- Of the id that was found, each disk of the name is one of others.
pub record AreOthers (name : Bytes) (n : ℕ) (held : List ℕ) (s t : BayState) : Type 0 where
  pub found : FoundDisks
  pub is : IsFound name n found s t
  pub none : has_group_name (free_disks held found) name ≡ false

-- The group was found and isn't quorate: between the search and this the bay was in this state. Nothing was written.
pub record IsNotQuorate {B : Type 0} (state : B → BayState) (name : Bytes) (n : ℕ) (held : List ℕ) (option : MountOption) (s t : BayState) (e : MountError) : Type 0 where
  pub found : FoundDisks
  pub slots : found.slots ≡ n
  pub between : B
  pub is : IsFound name n found s (state between)
  pub searched : Runs (λ slot. slot < n) Same s (state between)
  pub reads : Runs (λ slot. slot < n) Same (state between) t
  pub cause : QuorumCause option (free_disks held found) e (state between) t

-- Its record wasn't written anew. Until it was read nothing was written.
pub record IsNotRenewed {B : Type 0} (state : B → BayState) (name : Bytes) (n : ℕ) (held : List ℕ) (option : MountOption) (s t : BayState) (e : MountError) : Type 0 where
  pub was : WasQuorate state name n held option s
  pub slots : was.found.slots ≡ n
  pub reads : Runs (λ slot. slot < n) Same (state was.between) (state was.later)
  pub later : (slot : ℕ) → (state was.later).faults slot ≤ t.faults slot
  pub cause : RecoverCause was.quorum e (state was.later) t

-- Why a group isn't mounted, where calls lead from s to t.
pub data IsMountCause {B : Type 0} (state : B → BayState) (name : Bytes) (n : ℕ) (held : List ℕ) (option : MountOption) (s t : BayState) (e : MountError) : Type 0 where
  not_found : Runs (λ slot. slot < n) Same s t → FindCause name n e s t → IsMountCause state name n held option s t e
  of_others : e ≡ error.NoGroup → Runs (λ slot. slot < n) Same s t → AreOthers name n held s t → IsMountCause state name n held option s t e
  not_quorate : IsNotQuorate state name n held option s t e → IsMountCause state name n held option s t e
  not_renewed : IsNotRenewed state name n held option s t e → IsMountCause state name n held option s t e
  -- its record stands, and what a stop left undone can't be ended
  not_cleared : (was : WasQuorate state name n held option s) → IsLostCause was.quorum s t e → IsMountCause state name n held option s t e
