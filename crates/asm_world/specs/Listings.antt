-- What the reports ls, du, find, lsdg and lstmpl show of a world.
use Rattle.std.specs.Prelude.{ℕ, ◌*◌, Bool, true, false, ◌&&◌, ◌==◌, List, [], ◌∷◌, length, map, sum, Option, Some, None, if◌then◌else◌}
use Rattle.std.specs.List.{list_any, filter_map}
use Rattle.std.specs.Option.{option_map}
use Rattle.std.specs.Str.{bytes_eq}
use Rattle.std.specs.FinMap as maps
use Rattle.asm_group.specs.Names.{Bytes, Path, ByName, folded, folded_path, is_same_name}
use Rattle.asm_group.specs.Group.{TreeNode, Dir, System, Alias, TreeEntry, File, Template, Group}
use Rattle.asm_world.specs.Below.{Below, GroupBelow}
use Rattle.asm_world.specs.Edits.{group_entry_at, group_has_dir, is_under, spelt}
use Rattle.asm_world.specs.Files.{size_of_file}
use Rattle.asm_world.specs.Paths.{up, last_part, path_text, resolved, resolved_pattern, resolved_or_here}
use Rattle.asm_world.specs.Reports.{Listed, Directory, ListedSystemName, AliasName, ls_lines, du_lines, group_head, mounted_line, dismounted_line}
use Rattle.asm_world.specs.World.{SessionEntry, Mounted, DismountedBy, World, is_mounted, entry_in, group_of_entry, mounted_group}

-- ---- patterns

abbrev pub tails : Bytes → List Bytes
tails [] = [] ∷ []
tails (b ∷ bytes) = (b ∷ bytes) ∷ tails bytes

abbrev pub begins_and : ℕ → Bytes → (Bytes → Bool) → Bool
begins_and p [] rest = false
begins_and p (b ∷ bytes) rest = (p == b) && rest bytes

-- `*` stands for any bytes, each other byte for itself
abbrev pub matches : Bytes → Bytes → Bool
matches [] name = length name == 0
matches (p ∷ pattern) name = if p == 42 then list_any (λ rest. matches pattern rest) (tails name) else begins_and p name (λ rest. matches pattern rest)

abbrev pub is_match : Bytes → Bytes → Bool
is_match pattern name = matches (folded pattern) (folded name)

abbrev pub has_star : Bytes → Bool
has_star part = list_any (λ b. b == 42) part

abbrev pub by_folded_text : List Bytes → ByName Bytes
by_folded_text texts = maps.from_entries (map (λ text. (folded text, text)) texts)

-- texts in folded order
abbrev pub in_order : List Bytes → List Bytes
in_order texts = maps.values (by_folded_text texts)

-- ---- ls

-- the path lies in the directory, and not deeper
abbrev pub is_child : Path → Path → Bool
is_child [] [] = false
is_child [] (part ∷ []) = true
is_child [] (part ∷ next ∷ path) = false
is_child (d ∷ dir) [] = false
is_child (d ∷ dir) (part ∷ path) = bytes_eq d part && is_child dir path

-- what stands in a directory, in folded order
abbrev pub children : Group → Path → List TreeEntry
children g dir = filter_map (λ e. if is_child (folded_path dir) e.0 then Some e.1 else None) (maps.entries g.tree)

abbrev pub is_system_name_of : ℕ → TreeNode → Bool
is_system_name_of n Dir = false
is_system_name_of n (System m) = m == n
is_system_name_of n (Alias m) = false

-- the system paths of a file, of which there is one
abbrev pub system_paths : Group → ℕ → List Bytes
system_paths g n = filter_map (λ e. if is_system_name_of n e.1.node then Some (path_text (spelt g e.0)) else None) (maps.entries g.tree)

abbrev pub first_or_none : List Bytes → Bytes
first_or_none [] = []
first_or_none (text ∷ texts) = text

-- the row of ls of one entry
abbrev pub listing_of_entry : Group → TreeEntry → Option Listed
listing_of_entry g e = elim e.node [
  | Dir ↦ Some (Directory e.name)
  | System n ↦ option_map (λ (f : File). ListedSystemName f.type_name f.copies f.stripe e.name) (maps.get g.files n)
  | Alias n ↦ option_map (λ (f : File). AliasName f.type_name f.copies f.stripe e.name (first_or_none (system_paths g n))) (maps.get g.files n)
]

abbrev pub rows_of : Group → List TreeEntry → List Listed
rows_of g entries = filter_map (λ e. listing_of_entry g e) entries

abbrev pub matching : Bytes → List TreeEntry → List TreeEntry
matching pattern entries = filter_map (λ (e : TreeEntry). if is_match pattern e.name then Some e else None) entries

abbrev pub one_entry : Option TreeEntry → List TreeEntry
one_entry None = []
one_entry (Some e) = e ∷ []

-- the names in a directory, the names that match the last part, or the file's own name
abbrev pub rows_at : Group → Path → List Listed
rows_at g path =
    if group_has_dir g path then rows_of g (children g path)
    else (if has_star (last_part path) then rows_of g (matching (last_part path) (children g (up path)))
    else rows_of g (one_entry (group_entry_at g path)))

-- the mounted groups, in folded order
abbrev pub mounted_names : World → List Bytes
mounted_names w = in_order (filter_map (λ (entry : SessionEntry). if is_mounted entry then Some entry.name else None) w.session)

abbrev pub rows_of_groups : List Bytes → List Listed
rows_of_groups names = map (λ name. Directory name) names

abbrev pub matching_groups : World → Bytes → List Bytes
matching_groups w pattern = filter_map (λ name. if is_match pattern name then Some name else None) (mounted_names w)

abbrev pub rows_in : Option Group → Path → Option (List Listed)
rows_in None path = None
rows_in (Some g) path = Some (rows_at g path)

abbrev pub rows_under : World → Bytes → Path → Option (List Listed)
rows_under w name [] = if has_star name then Some (rows_of_groups (matching_groups w name)) else rows_in (mounted_group w name) []
rows_under w name (part ∷ path) = rows_in (mounted_group w name) (part ∷ path)

-- at `+` the mounted groups
abbrev pub rows_listed : World → Option (List Bytes) → Option (List Listed)
rows_listed w None = None
rows_listed w (Some []) = Some (rows_of_groups (mounted_names w))
rows_listed w (Some (name ∷ path)) = rows_under w name path

abbrev pub list_lines : World → Bool → Option Bytes → Option (List Bytes)
list_lines w long path = option_map (λ rows. ls_lines long rows) (rows_listed w (resolved_pattern w.place path))

-- ---- du

abbrev pub file_below : Path → Path × TreeEntry → Option ℕ
file_below dir (key, e) = if is_under dir key then system_file e.node else None where
  system_file : TreeNode → Option ℕ
  system_file Dir = None
  system_file (System n) = Some n
  system_file (Alias n) = None

-- the files whose system names lie below a directory
abbrev pub files_below : Group → Path → List ℕ
files_below g dir = filter_map (file_below (folded_path dir)) (maps.entries g.tree)

abbrev pub usage_of : GroupBelow → Group → Path → List Bytes
usage_of below g dir =
    let files = files_below g dir in
    du_lines (sum (map (λ n. size_of_file (maps.get g.files n)) files)) (sum (map (λ n. below.units n * g.shape.au) files))

abbrev pub usage_in : Below → Option SessionEntry → Option Group → Path → Option (List Bytes)
usage_in below None g path = None
usage_in below (Some entry) None path = None
usage_in below (Some entry) (Some g) path = Some (usage_of (below.group entry.id) g path)

abbrev pub usage_at : Below → World → Option (List Bytes) → Option (List Bytes)
usage_at below w None = None
usage_at below w (Some []) = None
usage_at below w (Some (name ∷ path)) = usage_in below (entry_in w name) (mounted_group w name) path

abbrev pub usage_lines : Below → World → Option Bytes → Option (List Bytes)
usage_lines below w path = usage_at below w (resolved_or_here w.place path)

-- ---- find

abbrev pub is_dir_of : TreeNode → Bool
is_dir_of Dir = true
is_dir_of (System n) = false
is_dir_of (Alias n) = false

abbrev pub found_path : Group → Path → Bytes → Path × TreeEntry → Option Bytes
found_path g dir pattern (key, e) =
    if is_under dir key && is_match pattern e.name
    then (if is_dir_of e.node then None else Some (path_text (spelt g key)))
    else None

-- the paths of files and aliases below a directory whose last part matches, in folded order
abbrev pub found_in : Group → Path → Bytes → List Bytes
found_in g dir pattern = in_order (filter_map (found_path g (folded_path dir) pattern) (maps.entries g.tree))

abbrev pub found_at : World → Option (List Bytes) → Bytes → Option (List Bytes)
found_at w None pattern = None
found_at w (Some []) pattern = None
found_at w (Some (name ∷ path)) pattern = option_map (λ g. found_in g path pattern) (mounted_group w name)

abbrev pub find_lines : World → Bytes → Bytes → Option (List Bytes)
find_lines w path pattern = found_at w (resolved w.place path) pattern

-- ---- lsdg and lstmpl

abbrev pub group_line : Below → World → SessionEntry → Option Bytes
group_line below w entry = elim entry.state [
  | Mounted ↦ option_map (λ (g : Group). mounted_line g.name g.shape (below.group entry.id).row) (group_of_entry w (Some entry))
  | DismountedBy disk ↦ Some (dismounted_line entry.name)
]

abbrev pub entries_named : List SessionEntry → Option Bytes → List SessionEntry
entries_named session None = session
entries_named session (Some name) = filter_map (λ (entry : SessionEntry). if is_same_name entry.name name then Some entry else None) session

-- in the order of mounting
abbrev pub lines_of_groups : Below → World → Option Bytes → List Bytes
lines_of_groups below w name = group_head ∷ filter_map (λ entry. group_line below w entry) (entries_named w.session name)

-- in folded order
abbrev pub template_rows : Group → List Template
template_rows g = maps.values g.templates
