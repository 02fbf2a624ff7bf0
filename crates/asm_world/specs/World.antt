-- The world that a user sees: groups with their names, files and settings, the session, and the files outside.
use Rattle.std.specs.Prelude.{ℕ, Bool, true, false, ◌&&◌, ◌==◌, List, [], ◌∷◌, map, Option, Some, None, unwrap_or, if◌then◌else◌}
use Rattle.std.specs.List.{list_any}
use Rattle.std.specs.FinMap as maps
use Rattle.asm_group.specs.Names.{Bytes, ByNumber, is_same_name}
use Rattle.asm_group.specs.Group.{Group}

pub data SessionState : Type 0 where
  Mounted : SessionState
  -- by the failure of this disk
  DismountedBy : (disk : Bytes) → SessionState

-- a group of the session
pub record SessionEntry : Type 0 where
  -- as it is spelt in the headers of its disks
  pub name : Bytes
  pub id : ℕ
  pub state : SessionState

-- a file outside, as far as the host tells it
pub data OutsideFile : Type 0 where
  NotTold : OutsideFile
  Absent : OutsideFile
  ToldBytes : (bytes : Bytes) → OutsideFile

pub record World : Type 0 where
  -- for each id the groups that its images may stand for
  pub groups : ByNumber (List Group)
  -- in the order of mounting
  pub session : List SessionEntry
  -- the session's directory: nothing at `+`, else a group's name and the parts below it
  pub place : List Bytes
  -- files outside by their paths
  pub host : Bytes → OutsideFile

-- no group, at `+`
abbrev pub empty_world : (Bytes → OutsideFile) → World
empty_world host = record { groups = maps.empty; session = []; place = []; host = host }

-- the groups that the images of an id may stand for
abbrev pub groups_of : World → ℕ → List Group
groups_of w id = unwrap_or (maps.get w.groups id) []

-- the session's entry of a name
abbrev pub entry_among : List SessionEntry → Bytes → Option SessionEntry
entry_among [] name = None
entry_among (entry ∷ session) name = if is_same_name entry.name name then Some entry else entry_among session name

abbrev pub entry_in : World → Bytes → Option SessionEntry
entry_in w name = entry_among w.session name

abbrev pub without_entry : List SessionEntry → Bytes → List SessionEntry
without_entry [] name = []
without_entry (entry ∷ session) name =
    let others = without_entry session name in
    if is_same_name entry.name name then others else entry ∷ others

abbrev pub mounted_entry : Bytes → ℕ → SessionEntry
mounted_entry name id = record { name = name; id = id; state = Mounted }

abbrev pub dismounted_if_named : Bytes → Bytes → SessionEntry → SessionEntry
dismounted_if_named name disk entry = if is_same_name entry.name name then record entry { state = DismountedBy disk } else entry

-- the entry of that name is dismounted by this disk
abbrev pub with_dismounted : List SessionEntry → Bytes → Bytes → List SessionEntry
with_dismounted session name disk = map (λ entry. dismounted_if_named name disk entry) session

-- the images of the id stand for this group alone
abbrev pub with_group : World → ℕ → Group → World
with_group w id g = record w { groups = maps.insert w.groups id (g ∷ []) }

-- ---- the group of a name

abbrev pub only_group : List Group → Option Group
only_group [] = None
only_group (g ∷ []) = Some g
only_group (g ∷ h ∷ groups) = None

abbrev pub is_mounted : SessionEntry → Bool
is_mounted entry = elim entry.state [ Mounted ↦ true | DismountedBy disk ↦ false ]

-- a group of this id is in the session, mounted
abbrev pub has_mounted : World → ℕ → Bool
has_mounted w id = list_any (λ (entry : SessionEntry). is_mounted entry && (entry.id == id)) w.session

abbrev pub group_of_entry : World → Option SessionEntry → Option Group
group_of_entry w None = None
group_of_entry w (Some entry) = if is_mounted entry then only_group (groups_of w entry.id) else None

-- the group that the name has in the session, mounted
abbrev pub mounted_group : World → Bytes → Option Group
mounted_group w name = group_of_entry w (entry_in w name)
