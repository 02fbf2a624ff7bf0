-- The edits of a group's names: those of its tree, and what becomes of the group.
use Rattle.std.specs.Prelude.{ℕ, Bool, List, [], ◌∷◌, ◌++◌, Option, Some, None, Result, Ok, Err}
use Rattle.std.specs.FinMap as maps
use Rattle.asm_group.specs.Names.{Bytes, Path}
use Rattle.asm_group.specs.Refusal as r
use Rattle.asm_group.specs.Group.{TreeNode, TreeEntry, Group}
use Rattle.asm_group.specs.TreeEdits as t
pub use Rattle.asm_group.specs.Causes.{Causes, first_cause, unless_refused}
pub use Rattle.asm_group.specs.TreeEdits.{is_root, is_under, is_dir_entry, file_of_entry, is_system_entry, TreeEdit, MakeDir, DropDir, RenameDir, AddAliasEntry, RenameAliasEntry, DropAliasEntry}

-- ---- what stands at a path

abbrev pub group_entry_at : Group → Path → Option TreeEntry
group_entry_at g path = t.entry_at g.tree path

abbrev pub group_has_path : Group → Path → Bool
group_has_path g path = t.is_there g.tree path

abbrev pub group_has_dir : Group → Path → Bool
group_has_dir g path = t.is_dir g.tree path

-- the file that a path's name stands for
abbrev pub group_file_at : Group → Path → Option ℕ
group_file_at g path = t.file_at g.tree path

abbrev pub group_has_file : Group → Path → Bool
group_has_file g path = t.is_file g.tree path

-- ---- paths as the tree spells them

abbrev pub spelt_part : Option TreeEntry → Bytes → Bytes
spelt_part None part = part
spelt_part (Some e) part = e.name

-- the parts behind those above, each as the tree spells it, or as written where it isn't there
abbrev pub spelt_below : Group → Path → Path → Path
spelt_below g above [] = []
spelt_below g above (part ∷ path) = spelt_part (group_entry_at g (above ++ part ∷ [])) part ∷ spelt_below g (above ++ part ∷ []) path

-- the path with the group's name, as it is printed
abbrev pub spelt : Group → Path → List Bytes
spelt g path = g.name ∷ spelt_below g [] path

-- ---- edits

abbrev pub group_edit_causes : Group → TreeEdit → Causes
group_edit_causes g edit = t.edit_causes g.tree edit

abbrev pub group_with_node : Group → Path → TreeNode → Group
group_with_node g path node = record g { tree = t.with_node g.tree path node }

abbrev pub group_without_node : Group → Path → Group
group_without_node g path = record g { tree = t.without_node g.tree path }

abbrev pub group_with_alias : Group → Path → Option ℕ → Group
group_with_alias g alias file = record g { tree = t.with_alias g.tree alias file }

abbrev pub changed_group : Group → TreeEdit → Group
changed_group g edit = record g { tree = t.changed g.tree edit }

-- The group after the edit, or why it is refused.
abbrev pub edited_group : Group → TreeEdit → Result Group r.Refusal
edited_group g edit = unless_refused (first_cause (group_edit_causes g edit)) (changed_group g edit)

-- ---- a file goes

-- with both its names
abbrev pub group_without_file : Group → ℕ → Group
group_without_file g n = record g { tree = t.without_file g.tree n; files = maps.remove g.files n }

-- rm takes a file by either of its names, or an empty directory.
abbrev pub removed : Group → Path → Option ℕ → Result Group r.Refusal
removed g path (Some n) = Ok (group_without_file g n)
removed g path None = edited_group g (t.DropDir path)

-- DROP FILE takes a file alone.
abbrev pub file_dropped : Group → Option ℕ → Result Group r.Refusal
file_dropped g None = Err r.NoName
file_dropped g (Some n) = Ok (group_without_file g n)
