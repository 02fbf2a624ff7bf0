-- The edits of a group's tree of names, and the refusals of each in the order in which they are tried.
use Rattle.std.specs.Prelude.{ℕ, Bool, true, false, ◌&&◌, ◌||◌, ◌==◌, not, List, [], ◌∷◌, ◌++◌, length, map, Option, Some, None, is_some, Result, if◌then◌else◌}
use Rattle.std.specs.List.{list_any}
use Rattle.std.specs.Str.{bytes_eq}
use Rattle.std.specs.FinMap as maps
use Rattle.asm_group.specs.Names.{Bytes, Path, ByPath, folded_path}
use Rattle.asm_group.specs.Refusal as r
use Rattle.asm_group.specs.Causes.{Causes, first_cause, unless_refused}
use Rattle.asm_group.specs.Group.{TreeNode, Dir, System, Alias, TreeEntry}

-- what stands at each folded path; the root has no entry
abbrev pub Tree : Type 0
Tree = ByPath TreeEntry

-- ---- paths

-- all parts but the last
abbrev pub up : List Bytes → List Bytes
up [] = []
up (part ∷ []) = []
up (part ∷ next ∷ parts) = part ∷ up (next ∷ parts)

abbrev pub last_part : List Bytes → Bytes
last_part [] = []
last_part (part ∷ []) = part
last_part (part ∷ next ∷ parts) = last_part (next ∷ parts)

abbrev pub is_root : Path → Bool
is_root path = length path == 0

-- the path lies below the directory, however deep
abbrev pub is_under : Path → Path → Bool
is_under [] [] = false
is_under [] (part ∷ path) = true
is_under (d ∷ dir) [] = false
is_under (d ∷ dir) (part ∷ path) = bytes_eq d part && is_under dir path

-- ---- what stands at a path

abbrev pub entry_at : Tree → Path → Option TreeEntry
entry_at t path = maps.get t (folded_path path)

abbrev pub is_there : Tree → Path → Bool
is_there t path = is_root path || is_some (entry_at t path)

abbrev pub is_dir_node : TreeNode → Bool
is_dir_node Dir = true
is_dir_node (System n) = false
is_dir_node (Alias n) = false

abbrev pub is_dir_entry : Option TreeEntry → Bool
is_dir_entry None = false
is_dir_entry (Some e) = is_dir_node e.node

abbrev pub is_dir : Tree → Path → Bool
is_dir t path = is_root path || is_dir_entry (entry_at t path)

-- the file that a name stands for
abbrev pub file_of_node : TreeNode → Option ℕ
file_of_node Dir = None
file_of_node (System n) = Some n
file_of_node (Alias n) = Some n

abbrev pub file_of_entry : Option TreeEntry → Option ℕ
file_of_entry None = None
file_of_entry (Some e) = file_of_node e.node

abbrev pub file_at : Tree → Path → Option ℕ
file_at t path = file_of_entry (entry_at t path)

abbrev pub is_file : Tree → Path → Bool
is_file t path = is_some (file_at t path)

abbrev pub is_system_node : TreeNode → Bool
is_system_node Dir = false
is_system_node (System n) = true
is_system_node (Alias n) = false

abbrev pub is_system_entry : Option TreeEntry → Bool
is_system_entry None = false
is_system_entry (Some e) = is_system_node e.node

abbrev pub has_entries : Tree → Path → Bool
has_entries t path = list_any (λ key. is_under (folded_path path) key) (maps.keys t)

-- it is a user alias of the file
abbrev pub is_alias_of : ℕ → TreeNode → Bool
is_alias_of n Dir = false
is_alias_of n (System m) = false
is_alias_of n (Alias m) = m == n

-- it is a name of the file
abbrev pub names_file : ℕ → TreeNode → Bool
names_file n Dir = false
names_file n (System m) = m == n
names_file n (Alias m) = m == n

abbrev pub is_tree_entry : (TreeNode → Bool) → Option TreeEntry → Bool
is_tree_entry test None = false
is_tree_entry test (Some e) = test e.node

-- some path leads to what passes the test
abbrev pub leads_to : Tree → (TreeNode → Bool) → Bool
leads_to t test = list_any (λ key. is_tree_entry test (maps.get t key)) (maps.keys t)

-- the file has a user alias
abbrev pub has_alias : Tree → Option ℕ → Bool
has_alias t None = false
has_alias t (Some n) = leads_to t (is_alias_of n)

-- ---- edits

-- AddFile gives a file its system name, below a directory that is there; DropFileEntries takes both names of a file.
pub data TreeEdit : Type 0 where
  MakeDir : (path : Path) → TreeEdit
  DropDir : (path : Path) → TreeEdit
  RenameDir : (old new : Path) → TreeEdit
  AddAliasEntry : (alias path : Path) → TreeEdit
  RenameAliasEntry : (old new : Path) → TreeEdit
  DropAliasEntry : (path : Path) → TreeEdit
  AddFile : (path : Path) (file : ℕ) → TreeEdit
  DropFileEntries : (file : ℕ) → TreeEdit

-- A new name wants something above it, and isn't the root.
abbrev pub lacks_parent : Tree → Path → Bool
lacks_parent t path = is_root path || not (is_there t (up path))

abbrev pub new_name_causes : Tree → Path → Causes
new_name_causes t path = (lacks_parent t path, r.NoName) ∷ (is_there t path, r.NameTaken) ∷ (not (is_dir t (up path)), r.NotDirectory) ∷ []

abbrev pub edit_causes : Tree → TreeEdit → Causes
edit_causes t (MakeDir path) = new_name_causes t path
edit_causes t (DropDir path) =
    (is_root path || not (is_there t path), r.NoName) ∷ (not (is_dir t path), r.NotDirectory) ∷ (has_entries t path, r.NotEmpty) ∷ []
edit_causes t (RenameDir old new) =
    (is_root old || not (is_there t old) || lacks_parent t new, r.NoName)
    ∷ (is_there t new || is_under (folded_path old) (folded_path new), r.NameTaken)
    ∷ (not (is_dir t old) || not (is_dir t (up new)), r.NotDirectory) ∷ []
edit_causes t (AddAliasEntry alias path) =
    (not (is_file t path) || lacks_parent t alias, r.NoName) ∷ (is_there t alias, r.NameTaken) ∷ (not (is_dir t (up alias)), r.NotDirectory)
    ∷ (has_alias t (file_at t path), r.HasAlias) ∷ []
edit_causes t (RenameAliasEntry old new) =
    (not (is_file t old) || lacks_parent t new, r.NoName) ∷ (is_there t new, r.NameTaken) ∷ (not (is_dir t (up new)), r.NotDirectory)
    ∷ (is_system_entry (entry_at t old), r.SystemName) ∷ []
edit_causes t (DropAliasEntry path) =
    (not (is_file t path), r.NoName) ∷ (is_system_entry (entry_at t path), r.SystemName) ∷ []
edit_causes t (AddFile path file) = new_name_causes t path
edit_causes t (DropFileEntries file) = (not (leads_to t (names_file file)), r.NoName) ∷ []

abbrev pub with_node : Tree → Path → TreeNode → Tree
with_node t path node = maps.insert t (folded_path path) (record { name = last_part path; node = node })

abbrev pub without_node : Tree → Path → Tree
without_node t path = maps.remove t (folded_path path)

-- the key under the new path in place of the old one, where it lies below that
abbrev pub moved_key : Path → Path → Path → Path
moved_key [] new key = new ++ key
moved_key (d ∷ dir) new [] = []
moved_key (d ∷ dir) new (part ∷ key) = moved_key dir new key

abbrev pub moved_entry : Path → Path → Path × TreeEntry → Path × TreeEntry
moved_entry old new (key, e) = if is_under old key then (moved_key old new key, e) else (key, e)

-- the directory under its new path, with all that lies below it
abbrev pub with_dir_moved : Tree → Path → Path → Tree
with_dir_moved t old new =
    let others = maps.entries (maps.remove t (folded_path old)) in
    with_node (maps.from_entries (map (moved_entry (folded_path old) (folded_path new)) others)) new Dir

abbrev pub with_alias : Tree → Path → Option ℕ → Tree
with_alias t alias None = t
with_alias t alias (Some n) = with_node t alias (Alias n)

-- without the paths that lead to the file
abbrev pub without_file : Tree → ℕ → Tree
without_file t n = maps.retain_keys t (λ key. not (is_tree_entry (names_file n) (maps.get t key)))

abbrev pub changed : Tree → TreeEdit → Tree
changed t (MakeDir path) = with_node t path Dir
changed t (DropDir path) = without_node t path
changed t (RenameDir old new) = with_dir_moved t old new
changed t (AddAliasEntry alias path) = with_alias t alias (file_at t path)
changed t (RenameAliasEntry old new) = with_alias (without_node t old) new (file_at t old)
changed t (DropAliasEntry path) = without_node t path
changed t (AddFile path file) = with_node t path (System file)
changed t (DropFileEntries file) = without_file t file

-- The tree after the edit, or why it is refused.
abbrev pub edited : Tree → TreeEdit → Result Tree r.Refusal
edited t edit = unless_refused (first_cause (edit_causes t edit)) (changed t edit)
