-- How commands keep what a stop may leave.
use Rattle.std.specs.Prelude.{◌≡◌, ◌≢◌, ◌⊎◌, ℕ, ◌+◌, ◌^◌, ◌<◌, ◌≤◌, ◌==◌, Bool, true, false, List, [], ◌∷◌, length, None, Result, Ok, Err, if◌then◌else◌}
use Rattle.bay.specs.Image.{Same}
use Rattle.bay.specs.Moments.{LeavesOnly, Runs}
use Rattle.bay.specs.State.{BayState}
use Rattle.refusal_lines.specs.declared.refusal.Refusal.{Refusal}
use Rattle.asm_group.specs.Group.{Group}
use Rattle.asm_formats.specs.Among.{IsAmong}
use Rattle.asm_images.specs.Kept.{Kept}
use Rattle.asm_world.specs.Between.{groups_between}
use Rattle.asm_world.specs.Command.{Command}
use Rattle.asm_world.specs.World.{SessionEntry, World, groups_of, has_mounted, is_mounted}
use Rattle.edit_laws.specs.Edits.{edited_by}
use Rattle.mounted_groups.specs.Creating.{HasCreated}
use Rattle.mounted_groups.specs.FirstParts.{MountsNew}
use Rattle.mounted_groups.specs.Leaving.{IsMountedOn}
use Rattle.mounted_groups.specs.group_engine.Commits.{StandsIn}
use Rattle.mounted_groups.specs.group_engine.Frames.{StaysAttached}
use Rattle.mounted_groups.specs.group_engine.Mounts.{IsMounted, MountedGroup, Mounts}
use Rattle.mounted_groups.specs.group_engine.Own.{KeepsGroup}
use Rattle.mounted_groups.specs.group_engine.Pending.{OutlastsFaults}
use Rattle.edit_laws.specs.group_files.Edits.{IsCommitted}
use Rattle.edit_laws.specs.group_files.GroupEdits.{IsEditPlan}
use Rattle.edit_laws.specs.group_files.declared.edit.GroupEdit.{GroupEdit}
use Rattle.mounted_groups.specs.group_recovery.Mounting.{Allows}
use Rattle.mounted_groups.specs.group_recovery.Recovered.{ChangesMembers}
use Rattle.session_claims.specs.Claims.{IsPaired, KeepsWorlds, StandsFor}
use Rattle.world_steps.specs.Told.{AreIdsApart}

-- Each mounted group was mounted before, under another id than this one, or it is under this id and new.
pub record MountsGoOn (id : ℕ) (IsNew : MountedGroup → Type 0) (w w' : World) (groups groups' : List MountedGroup) : Type 0 where
  pub entries : length groups' ≡ length w'.session
  pub ids : AreIdsApart w'.session
  pub pairs : (e : SessionEntry) (m : MountedGroup) → IsPaired w'.session groups' e m → is_mounted e ≡ true
      → ((e.id ≡ id) × IsNew m) ⊎ ((e.id ≢ id) × IsPaired w.session groups e m)

-- ---- where no byte changes

-- the groups and the entries are some of those before
pub record AreSome (w w' : World) (groups groups' : List MountedGroup) : Type 0 where
  pub entries : length groups' ≡ length w'.session
  pub ids : AreIdsApart w'.session
  pub pairs : (e : SessionEntry) (m : MountedGroup) → IsPaired w'.session groups' e m → is_mounted e ≡ true → IsPaired w.session groups e m
  pub lists : (id : ℕ) → groups_of w' id ≡ groups_of w id

-- A command that wrote nothing, with calls on these slots, after which no more groups are mounted.
abbrev pub LooksKeep : (ℕ → Type 0) → BayState → BayState → Type 0
LooksKeep slots old new =
    (n : ℕ) (known : ℕ → Bool) (given given' : ℕ) (w w' : World) (groups groups' : List MountedGroup) (command : Command) → given ≤ given' → Runs slots Same old new → StaysAttached old new
    → AreSome w w' groups groups' → StandsFor n known given old w groups → KeepsWorlds n known command given' old new w w' groups'

-- ---- an edit of one group

-- What a piece of work that is an edit did to a mounted group, where a change was planned.
pub record CommitsEdit (edit : GroupEdit) (old : MountedGroup) (answer : Result (Unit {0}) Refusal) (new : MountedGroup) (s t : BayState) : Type 0 where
  pub mounted : IsMounted old
  pub keeps : KeepsGroup old new s t
  pub committed : IsCommitted (IsEditPlan old.catalog edit) old answer new s t

-- the group of an id and the world's group after the edit
pub record EditsTo (w : World) (id : ℕ) (edit : GroupEdit) (g h : Group) : Type 0 where
  pub before : groups_of w id ≡ g ∷ []
  pub after : edited_by g edit ≡ Ok h

-- the world's groups, but for those of an id
abbrev pub ReplacesGroups : World → ℕ → List Group → World → Type 0
ReplacesGroups w id groups w' = (i : ℕ) → groups_of w' i ≡ (if i == id then groups else groups_of w i)

-- Over an edit that was done the disks hold the group before or the one after, and then the one after.
abbrev pub EditKeeps : BayState → BayState → Type 0
EditKeeps s t =
    (n : ℕ) (known : ℕ → Bool) (given : ℕ) (w w' : World) (groups groups' : List MountedGroup) (e : SessionEntry) (edit : GroupEdit) (old new : MountedGroup) (g h : Group) (command : Command)
    → StandsFor n known given s w groups → IsPaired w.session groups e old → is_mounted e ≡ true → CommitsEdit edit old (Ok tt) new s t → EditsTo w e.id edit g h → ReplacesGroups w e.id (h ∷ []) w'
    → MountsGoOn e.id (λ m. m ≡ new) w w' groups groups' → KeepsWorlds n known command given s t w w' groups'

-- Where its commit dismounted the group, the disks hold one of them.
abbrev pub TearingKeeps : BayState → BayState → Type 0
TearingKeeps s t =
    (n : ℕ) (known : ℕ → Bool) (given : ℕ) (w w' : World) (groups groups' : List MountedGroup) (e : SessionEntry) (edit : GroupEdit) (old new : MountedGroup) (answer : Result (Unit {0}) Refusal) (g h : Group) (command : Command)
    → StandsFor n known given s w groups → IsPaired w.session groups e old → is_mounted e ≡ true → CommitsEdit edit old answer new s t → EditsTo w e.id edit g h → ReplacesGroups w e.id (g ∷ h ∷ []) w'
    → MountsGoOn e.id (λ m. ⊥) w w' groups groups' → KeepsWorlds n known command given s t w w' groups'

-- Where its commit was refused and the group is mounted still, nothing was done.
abbrev pub RefusalKeeps : BayState → BayState → Type 0
RefusalKeeps s t =
    (n : ℕ) (known : ℕ → Bool) (given : ℕ) (w w' : World) (groups groups' : List MountedGroup) (e : SessionEntry) (edit : GroupEdit) (old new : MountedGroup) (refusal : Refusal) (command : Command)
    → StandsFor n known given s w groups → IsPaired w.session groups e old → is_mounted e ≡ true → CommitsEdit edit old (Err refusal) new s t → IsMounted new → ((i : ℕ) → groups_of w' i ≡ groups_of w i)
    → MountsGoOn e.id (λ m. m ≡ new) w w' groups groups' → KeepsWorlds n known command given s t w w' groups'

-- ---- a write of users' bytes

-- Each image of each moment is held for the group with the cells of the span Free. In the end, where it takes calls, this one is mounted.
pub record HoldsWrite (n : ℕ) (old new : MountedGroup) (free h : Group) (kept : Kept) (s t : BayState) : Type 0 where
  pub moments : LeavesOnly s t (StandsIn n old.register.id (free ∷ []) kept)
  pub after : IsMounted new → (later : Kept) × (later.slots ≡ kept.slots) × Mounts n new t h later
  pub turns : IsMounted new → OutlastsFaults new

-- Users' bytes of a mounted group g were written, or a part of them: while they are the group is `free`, with the cells of the span Free,
-- and then it is h. It is so however it is mounted, with no move on its way and turns enough.
pub record WritesGroup (n : ℕ) (old new : MountedGroup) (g free h : Group) (s t : BayState) : Type 0 where
  pub mounted : IsMounted old
  pub keeps : KeepsGroup old new s t
  pub holds : (kept : Kept) → Mounts n old s g kept → old.flight ≡ None → OutlastsFaults old → HoldsWrite n old new free h kept s t

-- The entry of a mounted group that is alone under its id, and the group that it is with the cells of the span Free: one of the worlds
-- between has it.
pub record IsWrittenIn (w w' : World) (groups : List MountedGroup) (command : Command) (e : SessionEntry) (old : MountedGroup) (g free : Group) : Type 0 where
  pub pair : IsPaired w.session groups e old
  pub is : is_mounted e ≡ true
  pub alone : groups_of w e.id ≡ g ∷ []
  pub between : IsAmong (groups_between w command w' e.id) free

-- Over a write after which the group takes calls, the disks hold the group with the span Free, and then the one after: with the bytes where
-- it was done, with the span Free where it was refused.
abbrev pub WriteKeeps : BayState → BayState → Type 0
WriteKeeps s t =
    (n : ℕ) (known : ℕ → Bool) (given : ℕ) (w w' : World) (groups groups' : List MountedGroup) (e : SessionEntry) (old new : MountedGroup) (g free h : Group) (command : Command)
    → StandsFor n known given s w groups → IsWrittenIn w w' groups command e old g free → WritesGroup n old new g free h s t → IsMounted new → ReplacesGroups w e.id (h ∷ []) w'
    → MountsGoOn e.id (λ m. m ≡ new) w w' groups groups' → KeepsWorlds n known command given s t w w' groups'

-- Where it dismounted the group, the disks hold the one with the span Free.
abbrev pub WriteTears : BayState → BayState → Type 0
WriteTears s t =
    (n : ℕ) (known : ℕ → Bool) (given : ℕ) (w w' : World) (groups groups' : List MountedGroup) (e : SessionEntry) (old new : MountedGroup) (g free h : Group) (command : Command)
    → StandsFor n known given s w groups → IsWrittenIn w w' groups command e old g free → WritesGroup n old new g free h s t → ReplacesGroups w e.id (free ∷ []) w'
    → MountsGoOn e.id (λ m. ⊥) w w' groups groups' → KeepsWorlds n known command given s t w w' groups'

-- ---- a creation

-- The premises on the id of a new group: it is above those that were given, and no disk of an id that was known has it.
pub record IsFreshId (known : ℕ → Bool) (given id : ℕ) : Type 0 where
  pub above : given ≤ id
  pub unknown : known id ≡ true → ⊥

-- A creation, at any moment, and once it is done or refused. The id is the new group's alone.
abbrev pub CreationKeeps : BayState → BayState → Type 0
CreationKeeps old new =
    (n : ℕ) (known : ℕ → Bool) (given given' made : ℕ) (g : Group) (ok : Bool) (w w' : World) (groups groups' : List MountedGroup) (command : Command) → StandsFor n known given old w groups → IsFreshId known given made
    → made + 1 ≤ given' → HasCreated n made g ok old new → StaysAttached old new → ReplacesGroups w made (g ∷ []) w' → (has_mounted w made ≡ true → ⊥)
    → MountsGoOn made (λ m. (m.register.id ≡ made) × MountsNew n g m old new) w w' groups groups' → KeepsWorlds n known command given' old new w w' groups'

-- ---- a mount

-- Calls on n slots under an id: each image of each moment stands for these groups under it, and each disk that changes is a member of it
-- before and after.
pub record WorksUnder (n id : ℕ) (groups : List Group) (old new : BayState) : Type 0 where
  pub moments : LeavesOnly old new (Allows id groups)
  pub members : Runs (λ slot. slot < n) (ChangesMembers id) old new
  pub attached : StaysAttached old new

-- A mount under an id: at each moment the disks stand for what they stood for, and in the end the group is mounted on them as they are.
pub record MountsUnder (n id : ℕ) (w : World) (g : Group) (m : MountedGroup) (old new : BayState) : Type 0 where
  pub out : has_mounted w id ≡ false
  pub works : WorksUnder n id (groups_of w id) old new
  pub same : m.register.id ≡ id
  -- its turns don't run out, whatever fails: at most 64 disks may
  pub most : ℕ
  pub few : most + 65 < 2 ^ 64
  pub is : IsMountedOn most n g m new

-- Over a mount the disks hold the groups of its id, and then the one that is mounted.
abbrev pub MountKeeps : BayState → BayState → Type 0
MountKeeps s t =
    (n : ℕ) (known : ℕ → Bool) (given : ℕ) (w w' : World) (groups groups' : List MountedGroup) (id : ℕ) (g : Group) (m : MountedGroup) (command : Command) → StandsFor n known given s w groups
    → MountsUnder n id w g m s t → ReplacesGroups w id (g ∷ []) w' → MountsGoOn id (λ x. x ≡ m) w w' groups groups' → KeepsWorlds n known command given s t w w' groups'

-- Where it was refused, wherever it came to, they hold the groups of its id.
abbrev pub RefusedMountKeeps : BayState → BayState → Type 0
RefusedMountKeeps s t =
    (n : ℕ) (known : ℕ → Bool) (given : ℕ) (w w' : World) (groups groups' : List MountedGroup) (id : ℕ) (command : Command) → StandsFor n known given s w groups
    → has_mounted w id ≡ false → WorksUnder n id (groups_of w id) s t → AreSome w w' groups groups' → KeepsWorlds n known command given s t w w' groups'
