-- The files of a group one after the other, what find shows of them, and what they take below a directory.
use Rattle.std.specs.Prelude.{ℕ, ◌*◌, Bool, nat_le, List, [], ◌∷◌, ◌++◌, filter, flat_map, sum_by, Option, Some, None, is_some, if◌then◌else◌}
use Rattle.std.specs.BTreeMap.{insert_entry}
use Rattle.std.specs.Map.{values_of}
use Rattle.std.specs.Option.{option_and_then, option_to_list}
use Rattle.std.specs.Ordering.{nat_cmp}
use Rattle.std.specs.Cmp.Lexicographic.{slice_cmp}
use Rattle.asm_group.specs.Names.{Bytes, Path, folded}
use Rattle.asm_formats.specs.Items.{Node}
use Rattle.asm_base.specs.Names.{path_text_in_group}
use Rattle.asm_base.specs.declared.path.Path as code
use Rattle.asm_world.specs.Listings.{is_match}
use Rattle.alias_tree.specs.Nodes.{node_at}
use Rattle.file_directory.specs.Files.{NumberedFile}
use Rattle.catalog_laws.specs.catalog_tables.Tables.{Catalogued, Tables}
use Rattle.group_reports.specs.Extents.{file_units}
use Rattle.group_reports.specs.Places.{path_below}
use Rattle.group_reports.specs.declared.taking.Taken.{Taken}

-- the files with numbers from one on
abbrev pub files_from : List NumberedFile → ℕ → List NumberedFile
files_from files least = filter (λ (f : NumberedFile). nat_le least f.0) files

-- ---- find

-- the path of a node whose name matches, where it lies below a directory
abbrev pub matching_node_path : Tables → Bytes → Path → Bytes → ℕ → Option code.Path
matching_node_path t group dir pattern n =
    option_and_then (λ (node : Node). if is_match pattern node.name then path_below t group dir n else None) (node_at t.nodes n)

-- of the two names of a file
abbrev pub found_of_file : Tables → Bytes → Path → Bytes → NumberedFile → List code.Path
found_of_file t group dir pattern f =
    option_to_list (matching_node_path t group dir pattern f.1.system) ++ option_to_list (matching_node_path t group dir pattern f.1.alias)

-- of some files
abbrev pub found_of_files : Tables → Bytes → Path → Bytes → List NumberedFile → List code.Path
found_of_files t group dir pattern files = flat_map (found_of_file t group dir pattern) files

abbrev pub folded_text : code.Path → Bytes
folded_text path = folded (path_text_in_group path.group path.parts)

-- each path under its text without case, among others
abbrev pub placed_among : List (Bytes × code.Path) → List code.Path → List (Bytes × code.Path)
placed_among places [] = places
placed_among places (path ∷ paths) = insert_entry (slice_cmp nat_cmp) (placed_among places paths) (folded_text path) path

-- in the order of their texts without case
abbrev pub paths_in_order : List code.Path → List code.Path
paths_in_order paths = values_of (placed_among [] paths)

-- the system and alias paths below a directory whose last part matches, in folded order
abbrev pub paths_found : Tables → Bytes → Path → Bytes → List code.Path
paths_found t group dir pattern = paths_in_order (found_of_files t group dir pattern t.files)

-- ---- du

-- what a file takes, where its system name lies below the directory
abbrev pub if_file_below : Tables → Bytes → Path → (NumberedFile → ℕ) → NumberedFile → ℕ
if_file_below t group dir bytes f = if is_some (path_below t group dir f.1.system) then bytes f else 0

-- the sum over some files
abbrev pub bytes_below : Tables → Bytes → Path → (NumberedFile → ℕ) → List NumberedFile → ℕ
bytes_below t group dir bytes files = sum_by (if_file_below t group dir bytes) files

abbrev pub file_size : NumberedFile → ℕ
file_size f = f.1.size

-- the bytes of all copies of its extents
abbrev pub mirrored_of : Catalogued → NumberedFile → ℕ
mirrored_of c f = file_units c f.0 * c.shape.au

-- the sizes of the files below a directory, and the bytes of all their copies
abbrev pub directory_usage : Catalogued → Bytes → Path → List NumberedFile → Taken
directory_usage c group dir files = record {
  used = bytes_below c.tables group dir file_size files;
  mirrored = bytes_below c.tables group dir (mirrored_of c) files;
}
