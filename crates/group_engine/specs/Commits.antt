-- What a commit of a mounted group does.
use Rattle.std.specs.Prelude.{◌≡◌, ◌⊎◌, ⊤, ℕ, ◌+◌, ◌<◌, ◌≤◌, ◌^◌, Bool, true, List, [], ◌∷◌, length, Some, IfErr, OnErr, OnOk, Result}
use Rattle.bay.specs.Image.{Image}
use Rattle.bay.specs.State.{BayState}
use Rattle.bay.specs.Counts.{Rose}
use Rattle.bay.specs.Moments.{LeavesOnly, NowOnly}
use Rattle.asm_group.specs.Group.{Group}
use Rattle.asm_formats.specs.Items.{Key}
use Rattle.asm_formats.specs.Following.{sets}
use Rattle.asm_base.specs.Records.{DirectoryRecord}
use Rattle.refusal_lines.specs.declared.refusal.DiskRef.{DiskRef}
use Rattle.refusal_lines.specs.declared.refusal.DiskRef.TheVariants as disk
use Rattle.refusal_lines.specs.declared.refusal.Refusal.{Refusal}
use Rattle.refusal_lines.specs.declared.refusal.Refusal.TheVariants as cause
use Rattle.asm_formats.specs.Among.{IsAmong}
use Rattle.asm_images.specs.Bridge.{disks_in}
use Rattle.asm_images.specs.Kept.{Kept, IsHeld}
use Rattle.asm_images.specs.Stands.{Standing}
use Rattle.rebalance.specs.catalog_tables.Changing.{IsAfter}
use Rattle.rebalance.specs.catalog_tables.Tables.{Tables}
use Rattle.asm_formats.specs.Sets.{elements, has_bit}
use Rattle.asm_formats.specs.Status.{Status}
use Rattle.directory_store.specs.Answers.{NoCalls}
use Rattle.directory_store.specs.page_map.Tables.{new_in, room}
use Rattle.status_register.specs.Holders.{attached_to}
use Rattle.status_register.specs.Surveys.{AreRead}
use Rattle.status_register.specs.Writes.{IsLostMember}
use Rattle.status_register.specs.declared.member.Member.{Member}
use Rattle.group_engine.specs.Becoming.{HoldsIn, LeadsToGroup}
use Rattle.group_engine.specs.Changes.{IsAsBefore}
use Rattle.group_engine.specs.Mounts.{IsMounted, MountedGroup, Mounts, slot_at}
use Rattle.group_engine.specs.Own.{KeepsGroup}
use Rattle.group_engine.specs.declared.access.Access.TheVariants as access

-- The image is held for the groups, by the history that was kept or by one that goes on from it, with the same attached disks.
pub record StandsIn (n id : ℕ) (groups : List Group) (kept : Kept) (image : Image) : Type 0 where
  pub by : Kept
  pub slots : by.slots ≡ kept.slots
  pub is : IsHeld n id groups by image
  -- with the attached disks and any others, Status and directories are there
  pub beside : (slots : ℕ → Bool) → ((slot : ℕ) → kept.slots slot ≡ true → slots slot ≡ true) → Standing id (disks_in n image) slots

-- The group that a change leads to: its tables say so, and its bytes stand on the disks as they are.
pub record LeadsTo (n : ℕ) (m : MountedGroup) (put : List DirectoryRecord) (gone : List Key) (s : BayState) (g h : Group) (kept : Kept) : Type 0 where
  pub mounts : Mounts n m s g kept
  pub tables : Tables
  pub after : IsAfter m.catalog.tables put gone tables
  pub leads : LeadsToGroup m.register.value tables g h
  pub holds : NowOnly s (HoldsIn m.register.id m.register.value tables h)
  -- turns don't run out
  pub turns : m.register.turn + 1 < 2 ^ 64

-- The group is dismounted, by the disk whose image is in the slot.
pub record IsDismountedBy (old : MountedGroup) (slot : ℕ) (refusal : Refusal) (new : MountedGroup) : Type 0 where
  pub number : ℕ
  pub small : number < 64
  pub found : (k : ℕ) → k < 64 → slot_at old.disks k ≡ Some slot → slot_at old.disks number ≡ Some slot
  pub refusal_is : refusal ≡ cause.Dismounted (disk.Number number)
  pub new_is : new ≡ record old { access = access.Dismounted number }

-- ---- causes

-- A record was written, and a disk of a set failed of which too few took it.
pub record LosesMajority (m : MountedGroup) (next : Status) (slot : ℕ) (s t : BayState) : Type 0 where
  pub took : List Member
  pub read : AreRead (λ (k : ℕ). Rose (s.faults k) (t.faults k)) (attached_to m.register.members next) took
  pub disk : Member
  pub lost : IsLostMember (attached_to m.register.members next) took (sets next) disk
  pub at : slot ≡ disk.slot

-- The disk has a directory copy by the record, and each disk that has one failed.
pub record LosesCopies (m : MountedGroup) (r : Status) (d : ℕ) (s t : BayState) : Type 0 where
  pub named : IsAmong (elements r.directories) d
  pub all : (k slot : ℕ) → IsAmong (elements r.directories) k → slot_at m.disks k ≡ Some slot → Rose (s.faults slot) (t.faults slot)

-- The disk failed, and with it all that have a directory copy by the record that held at the end, or a majority of a set of a record
-- that was written.
pub record IsLostIn (m : MountedGroup) (r : Status) (d : ℕ) (s t : BayState) : Type 0 where
  pub slot : ℕ
  pub at : slot_at m.disks d ≡ Some slot
  pub rose : Rose (s.faults slot) (t.faults slot)
  pub by : LosesCopies m r d s t ⊎ ((next : Status) × LosesMajority m next slot s t)

-- the group was dismounted by the disk before the call, or in it
abbrev pub DismountCause : MountedGroup → MountedGroup → BayState → BayState → DiskRef → Type 0
DismountCause old new s t (disk.Number d) = (old.access ≡ access.Dismounted d) ⊎ ((new.access ≡ access.Dismounted d) × IsLostIn old new.register.value d s t)
DismountCause old new s t (disk.Spelt text) = ⊥

-- The group takes calls and has a directory copy, and more records are new than there are blocks left.
pub record IsFull (m : MountedGroup) (put : List DirectoryRecord) (need free : ℕ) : Type 0 where
  pub mounted : IsMounted m
  pub copies : 0 < length m.store.copies
  pub need_is : need ≡ new_in m.store.table put
  pub free_is : free ≡ room m.store.table
  pub few : free < need

-- When a commit is refused. Want of memory is free.
abbrev pub CommitCause : MountedGroup → List DirectoryRecord → MountedGroup → BayState → BayState → Refusal → Type 0
CommitCause old put new s t (cause.DirectoryFull need free) = IsFull old put need free
CommitCause old put new s t (cause.Dismounted by) = DismountCause old new s t by
CommitCause old put new s t cause.NoMemory = ⊤
CommitCause old put new s t _ = ⊥

-- When the writing of a status record is refused.
abbrev pub StatusCause : MountedGroup → MountedGroup → BayState → BayState → Refusal → Type 0
StatusCause old new s t (cause.Dismounted by) = DismountCause old new s t by
StatusCause old new s t cause.NoMemory = ⊤
StatusCause old new s t _ = ⊥

-- ---- what the calls do

-- A status record after a commit: it is the one before, but for its number and for directory copies that failed.
pub record KeepsRecord (old new : Status) : Type 0 where
  pub id : new.id ≡ old.id
  pub gone : new.gone ≡ old.gone
  pub births : new.births ≡ old.births
  pub holders : new.holders ≡ old.holders
  pub next_holders : new.next_holders ≡ old.next_holders
  pub entries : new.entries ≡ old.entries
  -- a disk that has a copy had one before
  pub copies : (d : ℕ) → d < 64 → has_bit new.directories d ≡ true → has_bit old.directories d ≡ true

-- Nothing was done: no call was made, and the group is as it was.
pub record IsIdle (old new : MountedGroup) (s t : BayState) : Type 0 where
  pub catalog : IsAsBefore old.catalog new.catalog
  pub copies : new.store.copies ≡ old.store.copies
  pub register : new.register ≡ old.register
  pub access : new.access ≡ old.access
  pub calls : NoCalls s t

-- A refusal by which the group isn't dismounted did nothing.
abbrev pub IsIdleBut : MountedGroup → MountedGroup → BayState → BayState → Refusal → Type 0
IsIdleBut old new s t (cause.Dismounted by) = ⊤
IsIdleBut old new s t _ = IsIdle old new s t

-- The turns that were taken, and one for each copy that a commit may give up: each turn that it takes costs a copy.
abbrev pub turns_at_most : MountedGroup → ℕ
turns_at_most m = m.register.turn + length m.store.copies

-- A commit on a group that takes calls: what it keeps, what the record and the tables are after it, why it is refused, what each image of
-- each moment is held for, and what is mounted at the end.
pub record CommitsChange (old : MountedGroup) (put : List DirectoryRecord) (gone : List Key) (answer : Result (Unit {0}) Refusal) (new : MountedGroup)
    (s t : BayState) : Type 0 where
  pub keeps : KeepsGroup old new s t
  pub flight : new.flight ≡ old.flight
  pub status : KeepsRecord old.register.value new.register.value
  pub mounted : OnOk answer (IsMounted new)
  pub applied : OnOk answer (IsAfter old.catalog.tables put gone new.catalog.tables)
  pub cause : IfErr answer (CommitCause old put new s t)
  pub moments : (n : ℕ) (g h : Group) (kept : Kept) → LeadsTo n old put gone s g h kept
      → LeavesOnly s t (StandsIn n old.register.id (g ∷ h ∷ []) kept)
  pub done : OnOk answer ((n : ℕ) (g h : Group) (kept : Kept) → LeadsTo n old put gone s g h kept
      → (later : Kept) × (later.slots ≡ kept.slots) × Mounts n new t h later)
  pub refused : IsMounted new → OnErr answer ((n : ℕ) (g : Group) (kept : Kept) → Mounts n old s g kept → Mounts n new t g kept)
  pub idle : IfErr answer (IsIdleBut old new s t)
  pub turns : turns_at_most new ≤ turns_at_most old

-- The commit of a change that a plan gave: it was done, or was refused for a disk that failed or for want of memory. Of a group that takes
-- calls it does what a commit does.
pub record CommitsPlan (old : MountedGroup) (put : List DirectoryRecord) (gone : List Key) (answer : Result (Unit {0}) Refusal) (new : MountedGroup)
    (s t : BayState) : Type 0 where
  pub cause : IfErr answer (StatusCause old new s t)
  -- the tables are those after the change
  pub applied : OnOk answer (IsAfter old.catalog.tables put gone new.catalog.tables)
  pub held : IsMounted old → CommitsChange old put gone answer new s t
