-- What the calls did that create a group, mount it and drop it, each as one value.
use Rattle.std.specs.Prelude.{◌≡◌, ◌⊎◌, ◌<◌, ◌≤◌, ℕ, Bool, true, List, [], All, Option, None, Result, is_ok, IfErr, IfOk, IfSome, IsSome, IsTrue, MatchOption, OnOk}
use Rattle.bay.specs.Counts.{last_count}
use Rattle.bay.specs.Image.{Same}
use Rattle.bay.specs.Moments.{Runs}
use Rattle.bay.specs.State.{BayState}
use Rattle.refusal_lines.specs.declared.refusal.Refusal.{Refusal}
use Rattle.refusal_lines.specs.Refusals.{meaning_of}
use Rattle.asm_group.specs.Names.{Bytes}
use Rattle.group_recovery.specs.declared.error.MountError.{MountError}
use Rattle.group_recovery.specs.declared.quorum.MountOption.{MountOption}
use Rattle.group_engine.specs.Frames.{StaysAttached}
use Rattle.group_engine.specs.Mounts.{IsMounted, MountedGroup}
use Rattle.group_engine.specs.Own.{KeepsGroup}
use Rattle.mounted_groups.specs.Creating.{HasCreated, made_group}
use Rattle.mounted_groups.specs.Dropping.{AreOut, DropGroupCause, HasNoFile}
use Rattle.mounted_groups.specs.FirstParts.{IsNewlyMounted, MountsNew}
use Rattle.mounted_groups.specs.Found.{AreIdsRead, IsAboveAll, IsEarly, RefusalCause, counts_of}
use Rattle.mounted_groups.specs.Holding.{SparesHeld}
use Rattle.mounted_groups.specs.Leaving.{LeavesRefused, WasMounted}
use Rattle.mounted_groups.specs.Mounting.{IsMountCause, IsMountedBy, IsRecovered}
use Rattle.mounted_groups.specs.Prepares.{AskedCreation}

-- A group was created as it was asked for, where others hold slots, and ids were noted; or that was
-- refused. The first part of the answer is its id, where the creation came to write.
pub record CreatesGroup (asked : AskedCreation) (held : List ℕ)
    (result : Option ℕ × Result MountedGroup Refusal) (noted : List ℕ) (s t : BayState) : Type 0 where
  -- the ids that were noted are those of headers
  pub ids : AreIdsRead noted (counts_of s) (counts_of t)
  -- a refusal has its cause
  pub cause : IfErr result.1
      (λ refusal. RefusalCause asked.paths asked.path (meaning_of (λ _. []) refusal) (counts_of s) (counts_of t))
  -- a group that was created has an id
  pub given : OnOk result.1 (IsSome result.0)
  -- a refusal that comes before the first write has none
  pub early : IfErr result.1 (λ refusal. IsEarly (meaning_of (λ _. []) refusal) → result.0 ≡ None)
  -- as long as ids don't run out, the id is above that of each header that could be read
  pub above : IfSome result.0
      (λ id. id < last_count → IsAboveAll asked.paths id (counts_of s) (counts_of t))
  -- it is at least the floor
  pub floor : IfSome result.0 (λ id. asked.floor ≤ id)
  -- and above each id that was noted
  pub above_read : IfSome result.0 (λ id. id < last_count → All (λ other. other < id) noted)
  -- without an id no disk changes; with one the disks stand at each moment for the groups that were
  -- there and for the new one or none, and at Ok for the new one
  pub moments : MatchOption result.0
      (Runs (λ slot. slot < asked.slots) Same s t)
      (λ id. HasCreated asked.slots id (made_group asked.name) (is_ok result.1) s t)
  -- the new group takes calls, on a disk that no other group holds
  pub mounted : IfOk result.1 (λ m. IsNewlyMounted held asked.name result.0 m t)
  -- its tables are those of the new group, and it is mounted on the disks as they are, where no
  -- disk was a member of its id before
  pub stands : IfOk result.1 (λ m. MountsNew asked.slots (made_group asked.name) m s t)
  -- of other groups nothing changes: what was attached stays so
  pub attached : StaysAttached s t
  -- and the disks in the slots that are held stay
  pub spares : SparesHeld held asked.slots s t

-- The group of a name was found on n slots, of which others hold some, and mounted with this
-- second; or that was refused.
pub record MountsByName {B : Type 0} (state : B → BayState) (name : Bytes) (n : ℕ) (held : List ℕ)
    (option : MountOption) (now : ℕ) (result : Result MountedGroup MountError)
    (s t : BayState) : Type 0 where
  -- it takes calls, on disks that no other group holds
  pub mounted : IfOk result (λ m. IsMountedBy name held m t)
  -- the record that was read is written anew, and each directory copy that it named on a disk that
  -- was read is named again
  pub taken : IfOk result (λ m. IsRecovered state name n held option now m s t)
  -- what a stop left undone is ended
  pub ended : IfOk result (λ m. m.catalog.tables.operations.pending ≡ None)
  -- a refusal has its cause
  pub cause : IfErr result (IsMountCause state name n held option s t)
  -- of other groups nothing changes: what was attached stays so
  pub attached : StaysAttached s t
  -- and the disks in the slots that are held stay
  pub spares : SparesHeld held n s t
  -- A refusal for what was found or read leaves all as it was, and at each moment of a claim the
  -- images stand for groups of before. Behind the record each image is held for the group that was
  -- mounted, and disks of its id's members alone change.
  pub refused : IfErr result (LeavesRefused state name n held option s t)
  -- With its record anew one of these groups was mounted on the disks as they were. It went on from
  -- there: since then each image is held for it alone, and it is mounted on the disks as they are.
  -- Over all of it disks of its id's members alone change.
  pub mounts : IfOk result (λ m. WasMounted state name n held option m s t)

-- A group was dropped, with its contents or where it has none; or that was refused.
pub record DropsGroup (old : MountedGroup) (contents : Bool) (result : Result (Unit {0}) Refusal)
    (new : MountedGroup) (s t : BayState) : Type 0 where
  -- only disks of the group change
  pub keeps : KeepsGroup old new s t
  -- a refusal has its cause
  pub cause : IfErr result (DropGroupCause old contents new s t)
  -- its contents were to go with it, or it has no file
  pub empty : OnOk result (IsTrue contents ⊎ HasNoFile old)
  -- its record is marked gone
  pub marked : OnOk result (new.register.value.gone ≡ true)
  -- and it takes no calls
  pub gone : OnOk result (IsMounted new → ⊥)
  -- its attached disks show no header any more, where their slots didn't fail
  pub out : OnOk result (AreOut old 64 s t)
