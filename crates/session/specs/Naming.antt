-- Groups of the session by their names, and what is done to one of them.
use Rattle.std.specs.Prelude.{◌≡◌, ◌⊎◌, ⊤, false, ℕ, ◌≤◌, List, [], ◌∷◌, length, map, Option, Some, None, if◌then◌else◌}
use Rattle.asm_group.specs.Names.{Bytes, is_same_name}
use Rattle.asm_group.specs.Refusal as r
use Rattle.refusal_lines.specs.Refusals.{meaning_of}
use Rattle.asm_formats.specs.Among.{IsAmong}
use Rattle.refusal_lines.specs.declared.refusal.Refusal.{Refusal}
use Rattle.asm_world.specs.World.{SessionEntry, SessionState, Mounted, DismountedBy, entry_among}
use Rattle.bay.specs.State.{BayState}
use Rattle.group_contents.specs.group_engine.Mounts.{IsMounted, MountedGroup}
use Rattle.group_contents.specs.group_engine.Members.{LetsGo}
use Rattle.session.specs.Effects.{Past}
use Rattle.session.specs.Sessions.{AreReady, SessionView}

abbrev pub in_state : SessionState → r.Refusal → Type 0
in_state Mounted refusal = ⊥
in_state (DismountedBy disk) refusal = refusal ≡ r.Dismounted disk

abbrev pub of_entry : Option SessionEntry → r.Refusal → Type 0
of_entry None refusal = refusal ≡ r.NoGroup
of_entry (Some entry) refusal = in_state entry.state refusal

-- The name isn't in the session, or its group is dismounted by this disk. Want of memory is free.
abbrev pub IsOutCause : List SessionEntry → Bytes → Refusal → Type 0
IsOutCause entries name refusal = of_entry (entry_among entries name) (meaning_of (λ _. []) refusal) ⊎ (meaning_of (λ _. []) refusal ≡ r.NoMemory)

-- no two entries have one name
abbrev pub AreNamesApart : List SessionEntry → Type 0
AreNamesApart [] = ⊤
AreNamesApart (e ∷ entries) = ((f : SessionEntry) → IsAmong entries f → is_same_name e.name f.name ≡ false) × AreNamesApart entries

-- the group of a name
abbrev pub group_among : List SessionEntry → List MountedGroup → Bytes → Option MountedGroup
group_among (entry ∷ entries) (m ∷ groups) name = if is_same_name entry.name name then Some m else group_among entries groups name
group_among entries groups name = None

-- the groups with another in the place of that of a name
abbrev pub with_group_named : List SessionEntry → List MountedGroup → Bytes → MountedGroup → List MountedGroup
with_group_named (entry ∷ entries) (m ∷ groups) name new = if is_same_name entry.name name then new ∷ groups else m ∷ with_group_named entries groups name new
with_group_named entries groups name new = groups

-- The session has an entry of the name, which is mounted.
pub record HasMountedEntry (entries : List SessionEntry) (name : Bytes) : Type 0 where
  pub entry : SessionEntry
  pub named : entry_among entries name ≡ Some entry
  pub state : entry.state ≡ Mounted

-- The group is the mounted one of the name, under its entry.
pub record IsGroupOf (session : SessionView) (name : Bytes) (m : MountedGroup) : Type 0 where
  pub named : group_among session.entries session.groups name ≡ Some m
  pub mounted : IsMounted m
  pub on : HasMountedEntry session.entries name
  -- each entry has its group
  pub paired : length session.groups ≡ length session.entries

-- the name and the id of a group of the session
abbrev pub key_of : SessionEntry → Bytes × ℕ
key_of entry = (entry.name, entry.id)

-- the mounted group of the name changed as in a call on it
pub record ChangesGroup (name : Bytes) (old new : SessionView) (s t : BayState) : Type 0 where
  pub before : MountedGroup
  pub after : MountedGroup
  pub is : IsGroupOf old name before
  pub keeps : LetsGo before after s t
  pub groups : new.groups ≡ with_group_named old.entries old.groups name after

-- a mounted group has the name
abbrev pub IsMountedName : SessionView → Bytes → Type 0
IsMountedName session name = (m : MountedGroup) × IsGroupOf session name m

-- All groups stay at their places, under their names and ids, and take the next call.
pub record CarriesOn (old new : SessionView) (s t : BayState) : Type 0 where
  pub keys : map key_of new.entries ≡ map key_of old.entries
  pub place : new.place ≡ old.place
  pub given : new.given ≡ old.given
  pub time : new.time ≡ old.time
  pub ready : AreReady new.groups t
  pub calls : s.calls ≤ t.calls
  pub past : Past s t
