-- Which node a path names, and the path of a node.
use Rattle.std.specs.Prelude.{ℕ, Bool, true, false, ◌==◌, List, length, Option, Some, None, Result, Ok, Err, if◌then◌else◌}
use Rattle.std.specs.List.{list_all}
use Rattle.std.specs.Option.{option_and_then, option_map}
use Rattle.asm_group.specs.Names.{Bytes, Path, folded_path, is_part}
use Rattle.asm_group.specs.TreeEdits.{is_under}
use Rattle.asm_formats.specs.Items.{Node}
use Rattle.asm_base.specs.declared.path.Path as code
use Rattle.refusal_lines.specs.declared.refusal.Refusal.{Refusal}
use Rattle.refusal_lines.specs.declared.refusal.Refusal.TheVariants.{NoName, NotDirectory}
use Rattle.alias_tree.specs.Nodes.{is_directory, node_at, number_of}
use Rattle.alias_tree.specs.Spelling.{names_to}
use Rattle.catalog_laws.specs.catalog_tables.Tables.{Tables}

-- ---- nodes

-- the node of a number is a directory, or the number is the root's
abbrev pub is_directory_in : ℕ → Option Node → Bool
is_directory_in n None = n == 0
is_directory_in n (Some node) = is_directory node

abbrev pub is_directory_at : Tables → ℕ → Bool
is_directory_at t n = is_directory_in n (node_at t.nodes n)

-- the directory that a path names, or why it names none
abbrev pub directory_in : Tables → Option ℕ → Result ℕ Refusal
directory_in t None = Err NoName
directory_in t (Some n) = if is_directory_at t n then Ok n else Err NotDirectory

abbrev pub directory_at : Tables → Path → Result ℕ Refusal
directory_at t path = directory_in t (number_of t.nodes path)

-- the node of a path, where each of its parts may be one: a pattern names no node
abbrev pub node_named : Tables → List Bytes → Option ℕ
node_named t parts = if list_all (is_part 80) parts then number_of t.nodes parts else None

-- ---- paths

abbrev pub path_of_parts : Bytes → Path → code.Path
path_of_parts group parts = record { group = group; parts = parts }

-- the path of a node in a group of this name, as the nodes spell it
abbrev pub path_at : Tables → Bytes → ℕ → Option code.Path
path_at t group n = option_map (λ (node : Node). path_of_parts group (names_to t.nodes (length t.nodes) n)) (node_at t.nodes n)

-- the path, where it lies below a directory, however deep
abbrev pub if_below : Path → code.Path → Option code.Path
if_below dir path = if is_under (folded_path dir) (folded_path path.parts) then Some path else None

abbrev pub path_below : Tables → Bytes → Path → ℕ → Option code.Path
path_below t group dir n = option_and_then (if_below dir) (path_at t group n)
