-- What a piece of work on one group of the session does, by its answer.
use Rattle.std.specs.Prelude.{◌≡◌, ◌⊎◌, [], List, map, Some, IfErr, IfOk, OnOk, Result, Ok, Err, if◌then◌else◌}
use Rattle.bay.specs.State.{BayState}
use Rattle.refusal_lines.specs.Refusals.{meaning_of}
use Rattle.refusal_lines.specs.declared.refusal.Refusal.{Refusal}
use Rattle.asm_group.specs.Names.{Bytes, is_same_name}
use Rattle.asm_group.specs.Refusal as r
use Rattle.asm_world.specs.World.{SessionEntry, SessionState, entry_among}
use Rattle.group_contents.specs.group_engine.Mounts.{MountedGroup}
use Rattle.session.specs.Entries.{disk_name, state_view}
use Rattle.session.specs.Naming.{AreNamesApart, CarriesOn, ChangesGroup, IsMountedName, IsGroupOf, IsOutCause, with_group_named}
use Rattle.session.specs.Sessions.{SessionView}

-- the refusal as a command has it, with the disk spelt, or want of memory
abbrev pub SpellsRefusal : MountedGroup → Refusal → Refusal → Type 0
SpellsRefusal m raw refusal = (meaning_of (λ _. []) refusal ≡ meaning_of (disk_name m) raw) ⊎ (meaning_of (λ _. []) refusal ≡ r.NoMemory)

-- the answer of a call on a group, so spelt
abbrev pub IsSpelt : {T : Type 0} → MountedGroup → Result T Refusal → Result T Refusal → Type 0
IsSpelt m (Ok done) result = result ≡ Ok done
IsSpelt m (Err raw) result = (refusal : Refusal) × (result ≡ Err refusal) × SpellsRefusal m raw refusal

-- the entries, with another state of those of a name
abbrev pub with_state : List SessionEntry → Bytes → SessionState → List SessionEntry
with_state entries name state = map (λ (entry : SessionEntry). if is_same_name entry.name name then record entry { state = state } else entry) entries

-- what work does to a group and the disks, by its answer
abbrev pub Doing : Type 0 → Type 1
Doing T = MountedGroup → Result T Refusal → MountedGroup → BayState → BayState → Type 0

-- The work was done on the mounted group of the name, or was refused by it.
pub record DoesWork {T : Type 0} (name : Bytes) (Does : Doing T) (result : Result T Refusal) (old new : SessionView) (s t : BayState) : Type 0 where
  pub before : MountedGroup
  pub after : MountedGroup
  pub is : IsGroupOf old name before
  pub entry : SessionEntry
  pub named : entry_among old.entries name ≡ Some entry
  pub state : entry.state ≡ state_view before
  pub apart : AreNamesApart old.entries
  pub answer : Result T Refusal
  pub spelt : IsSpelt after answer result
  pub does : Does before answer after s t
  pub groups : new.groups ≡ with_group_named old.entries old.groups name after
  pub entries : new.entries ≡ with_state old.entries name (state_view after)

-- a piece of work changed the mounted group of the name, and did this where it gave that
abbrev pub DoesOn : {T : Type 0} → Bytes → Doing T → SessionView → SessionView → BayState → BayState → T → Type 0
DoesOn name Does old new s t given = (changes : ChangesGroup name old new s t) × Does changes.before (Ok given) changes.after s t

-- At most the mounted group of a name is worked on.
pub record WorksOn {T : Type 0} (name : Bytes) (Does : Doing T) (result : Result T Refusal) (old new : SessionView) (s t : BayState) : Type 0 where
  -- ok comes of a mounted group alone, and of any other name the refusal that it has
  pub found : OnOk result (IsMountedName old name)
  pub out : IfErr result (λ refusal. IsMountedName old name ⊎ IsOutCause old.entries name refusal)
  pub groups : (new.groups ≡ old.groups) ⊎ ChangesGroup name old new s t
  -- where no mounted group has the name nothing is done, and else what the work did, also where it was refused
  pub idle : (IsMountedName old name → ⊥) → (new ≡ old) × (t.calls ≡ s.calls)
  pub works : IsMountedName old name → DoesWork name Does result old new s t
  pub done : IfOk result (DoesOn name Does old new s t)
  pub carries : CarriesOn old new s t
