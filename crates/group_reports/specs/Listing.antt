-- The rows of ls, by the nodes of a group's tables.
use Rattle.std.specs.Prelude.{◌≡◌, ⊤, ℕ, ◌==◌, List, [], ◌∷◌, filter_map, if◌then◌else◌, Option, Some, None, Result, Ok, Err, MatchBool, IsSomeAnd}
use Rattle.std.specs.List.{list_any}
use Rattle.std.specs.Option.{option_and_then, option_map, option_to_list}
use Rattle.asm_group.specs.declared.NodeKind.{NodeKind}
use Rattle.asm_group.specs.declared.NodeKind.TheVariants.{Directory, System, Alias}
use Rattle.asm_group.specs.Names.{Bytes}
use Rattle.asm_group.specs.TreeEdits.{last_part, up}
use Rattle.asm_formats.specs.Items.{FileHead, Node}
use Rattle.asm_base.specs.Names.{path_text_in_group}
use Rattle.asm_base.specs.declared.path.Path as code
use Rattle.refusal_lines.specs.declared.refusal.Refusal.{Refusal}
use Rattle.refusal_lines.specs.declared.refusal.Refusal.TheVariants as cause
use Rattle.asm_world.specs.Listings.{has_star, is_match}
use Rattle.asm_world.specs.Reports as reports
use Rattle.asm_world.specs.Reports.{Listed}
use Rattle.alias_tree.specs.Nodes.{AreByName, is_under_parent, node_at}
use Rattle.file_directory.specs.Files.{head_at}
use Rattle.catalog_laws.specs.catalog_tables.Tables.{Tables}
use Rattle.asmcmd.specs.Texts.{listed_row}
use Rattle.asmcmd.specs.declared.rows.LsRow.{LsRow}
use Rattle.group_reports.specs.Places.{directory_in, is_directory_at, node_named, path_at}

-- ---- one name

-- a path as it is printed; no bytes where there is none
abbrev pub path_text_if_any : Option code.Path → Bytes
path_text_if_any None = []
path_text_if_any (Some path) = path_text_in_group path.group path.parts

abbrev pub path_to : Tables → Bytes → ℕ → Bytes
path_to t group n = path_text_if_any (path_at t group n)

-- what a name is in a list of names: a directory, or the name of a file that has a head
abbrev pub listed_as : Tables → Bytes → Bytes → NodeKind → Option FileHead → Option Listed
listed_as t group name Directory head = Some (reports.Directory name)
listed_as t group name System head = option_map (λ (h : FileHead). reports.ListedSystemName h.type_name h.copies h.stripe name) head
listed_as t group name Alias head = option_map (λ (h : FileHead). reports.AliasName h.type_name h.copies h.stripe name (path_to t group h.system)) head

abbrev pub listing_of_node : Tables → Bytes → Node → Option Listed
listing_of_node t group node = listed_as t group node.name node.kind (head_at t.files node.file)

-- the row of a node whose name matches
abbrev pub node_row : Tables → Bytes → Bytes → Node → Option LsRow
node_row t group pattern node = if is_match pattern node.name then option_map listed_row (listing_of_node t group node) else None

abbrev pub row_at : Tables → Bytes → Bytes → ℕ → Option LsRow
row_at t group pattern n = option_and_then (node_row t group pattern) (node_at t.nodes n)

-- ---- the names in a directory

abbrev pub rows_of_nodes : Tables → Bytes → Bytes → List ℕ → List LsRow
rows_of_nodes t group pattern ns = filter_map (row_at t group pattern) ns

-- The rows are those of the names in a directory that match, in folded order.
pub record AreRowsUnder (t : Tables) (group : Bytes) (dir : ℕ) (pattern : Bytes) (rows : List LsRow) : Type 0 where
  pub numbers : List ℕ
  pub each : (n : ℕ) → list_any (λ m. m == n) numbers ≡ is_under_parent t.nodes dir n
  pub order : AreByName t.nodes numbers
  pub is : rows ≡ rows_of_nodes t group pattern numbers

-- ---- a path of ls

-- the pattern that all names match
abbrev pub star : Bytes
star = 42 ∷ []

-- of a directory its names, and of a file its own
abbrev pub AreRowsOf : Tables → Bytes → ℕ → List LsRow → Type 0
AreRowsOf t group n rows = MatchBool (is_directory_at t n) (AreRowsUnder t group n star rows) (rows ≡ option_to_list (row_at t group star n))

-- of the names in a directory, if there is one
abbrev pub AreRowsIn : Tables → Bytes → Bytes → Result ℕ Refusal → List LsRow → Type 0
AreRowsIn t group pattern (Ok dir) rows = AreRowsUnder t group dir pattern rows
AreRowsIn t group pattern (Err refusal) rows = ⊥

-- The names in a directory, the names that match the last part, or the file's own name.
abbrev pub AreRowsAt : Tables → Bytes → List Bytes → List LsRow → Type 0
AreRowsAt t group parts rows =
    MatchBool (has_star (last_part parts)) (AreRowsIn t group (last_part parts) (directory_in t (node_named t (up parts))) rows)
    (IsSomeAnd (node_named t parts) (λ n. AreRowsOf t group n rows))

abbrev pub directory_refusal : Result ℕ Refusal → Option Refusal
directory_refusal (Ok n) = None
directory_refusal (Err refusal) = Some refusal

abbrev pub if_missing : Option ℕ → Option Refusal
if_missing None = Some cause.NoName
if_missing (Some n) = None

-- NoName, or of the directory in which a pattern is looked for NotDirectory
abbrev pub list_refusal : Tables → List Bytes → Option Refusal
list_refusal t parts = if has_star (last_part parts) then directory_refusal (directory_in t (node_named t (up parts))) else if_missing (node_named t parts)

-- Want of memory is free, and any other refusal is this one.
abbrev pub IsDueRefusal : Option Refusal → Refusal → Type 0
IsDueRefusal due cause.NoMemory = ⊤
IsDueRefusal due refusal = due ≡ Some refusal

abbrev pub IsListCause : Tables → List Bytes → Refusal → Type 0
IsListCause t parts refusal = IsDueRefusal (list_refusal t parts) refusal
