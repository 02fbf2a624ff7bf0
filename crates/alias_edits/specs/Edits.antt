-- What edits of the tree mean, and what each makes of the nodes.
use Rattle.std.specs.Prelude.{◌≡◌, ◌⊎◌, ℕ, ◌==◌, Bool, true, List, Some, None, Result, Err, if◌then◌else◌}
use Rattle.std.specs.List.{list_all, list_any}
use Rattle.asm_group.specs.declared.NodeKind.{NodeKind}
use Rattle.asm_group.specs.declared.NodeKind.TheVariants.{Directory, System, Alias}
use Rattle.asm_group.specs.Names.{Path, is_part}
use Rattle.asm_group.specs.Refusal as r
use Rattle.asm_group.specs.TreeEdits as e
use Rattle.asm_group.specs.TreeEdits.{Tree, up, last_part}
use Rattle.asm_formats.specs.Items.{Node}
use Rattle.alias_edits.specs.declared.editing.TreeEdit.{TreeEdit}
use Rattle.alias_edits.specs.declared.editing.TreeEdit.TheVariants as code
use Rattle.alias_edits.specs.declared.editing.TreeError.{TreeError}
use Rattle.alias_edits.specs.declared.editing.TreeError.TheVariants as cause
use Rattle.alias_edits.specs.declared.planning.TreeChange.{TreeChange}
use Rattle.alias_edits.specs.declared.planning.TreeChange.TheVariants as change
use Rattle.alias_tree.specs.Nodes.{Numbered, node_at, number_of, with_numbered_node, without_numbered_node}
use Rattle.alias_tree.specs.Trees.{tree_of}
use Rattle.alias_tree.specs.Numbers.{IsLeastFree, is_name_of, without_all}

-- ---- the code's edits and refusals

abbrev pub edit_meant : TreeEdit → e.TreeEdit
edit_meant (code.MakeDir path) = e.MakeDir path.parts
edit_meant (code.DropDir path) = e.DropDir path.parts
edit_meant (code.RenameDir old new) = e.RenameDir old.parts new.parts
edit_meant (code.AddAlias alias path) = e.AddAliasEntry alias.parts path.parts
edit_meant (code.RenameAlias old new) = e.RenameAliasEntry old.parts new.parts
edit_meant (code.DropAlias path) = e.DropAliasEntry path.parts
edit_meant (code.AddFile path file) = e.AddFile path.parts file
edit_meant (code.DropFile file) = e.DropFileEntries file

-- each part has at most 80 bytes
abbrev pub are_parts : Path → Bool
are_parts path = list_all (is_part 80) path

-- the path of the name that the edit puts is of the grammar
abbrev pub is_tree_edit : e.TreeEdit → Bool
is_tree_edit (e.MakeDir path) = are_parts path
is_tree_edit (e.DropDir path) = true
is_tree_edit (e.RenameDir old new) = are_parts new
is_tree_edit (e.AddAliasEntry alias path) = are_parts alias
is_tree_edit (e.RenameAliasEntry old new) = are_parts new
is_tree_edit (e.DropAliasEntry path) = true
is_tree_edit (e.AddFile path file) = are_parts path
is_tree_edit (e.DropFileEntries file) = true

abbrev pub cause_said : TreeError → r.Refusal
cause_said cause.NoName = r.NoName
cause_said cause.NameTaken = r.NameTaken
cause_said cause.NotDirectory = r.NotDirectory
cause_said cause.NotEmpty = r.NotEmpty
cause_said cause.HasAlias = r.HasAlias
cause_said cause.SystemName = r.SystemName
cause_said cause.NoMemory = r.NoMemory

-- want of memory, or why the edit is refused
abbrev pub IsRefusal : Result Tree r.Refusal → TreeError → Type 0
IsRefusal edited error = (cause_said error ≡ r.NoMemory) ⊎ (edited ≡ Err (cause_said error))

-- ---- nodes

-- the node hangs below the last but one part of the path, under the last one's name
pub record HangsAt (nodes : List Numbered) (path : Path) (node : Node) : Type 0 where
  pub above : number_of nodes (up path) ≡ Some node.parent
  pub name : node.name ≡ last_part path

-- a node is put at the end of a path, under the least free number
pub record PutsNode (old new : List Numbered) (path : Path) (kind : NodeKind) (file : ℕ) : Type 0 where
  pub number : ℕ
  pub node : Node
  pub free : IsLeastFree old number
  pub hangs : HangsAt old path node
  pub kind_is : node.kind ≡ kind
  pub file_is : node.file ≡ file
  pub after : new ≡ with_numbered_node old number node

-- the node at the end of a path goes
pub record RemovesNode (old new : List Numbered) (path : Path) : Type 0 where
  pub number : ℕ
  pub at : number_of old path ≡ Some number
  pub after : new ≡ without_numbered_node old number

-- the node of a path with the parent and the name of another path
pub record IsMoved (nodes : List Numbered) (from to : Path) (number : ℕ) (node : Node) : Type 0 where
  pub was : Node
  pub at : number_of nodes from ≡ Some number
  pub was_at : node_at nodes number ≡ Some was
  pub hangs : HangsAt nodes to node
  pub kind_is : node.kind ≡ was.kind
  pub file_is : node.file ≡ was.file

-- the node at the end of a path gets the parent and the name of another path
pub record MovesNode (old new : List Numbered) (from to : Path) : Type 0 where
  pub number : ℕ
  pub node : Node
  pub moved : IsMoved old from to number node
  pub after : new ≡ with_numbered_node old number node

-- the names of a file go
abbrev pub RemovesNames : List Numbered → List Numbered → ℕ → Type 0
RemovesNames old new file = (n : ℕ) → node_at new n ≡ (if is_name_of file (node_at old n) then None else node_at old n)

-- an alias is put for the file that the node at the end of a path names
pub record PutsAlias (old new : List Numbered) (alias path : Path) : Type 0 where
  pub file : ℕ
  pub file_is : e.file_at (tree_of old) path ≡ Some file
  pub puts : PutsNode old new alias Alias file

-- What an edit that is done makes of the nodes: one is put, moved or gone, or the names of one file are gone.
abbrev pub ChangesNodes : List Numbered → List Numbered → e.TreeEdit → Type 0
ChangesNodes old new (e.MakeDir path) = PutsNode old new path Directory 0
ChangesNodes old new (e.DropDir path) = RemovesNode old new path
ChangesNodes old new (e.RenameDir from to) = MovesNode old new from to
ChangesNodes old new (e.AddAliasEntry alias path) = PutsAlias old new alias path
ChangesNodes old new (e.RenameAliasEntry from to) = MovesNode old new from to
ChangesNodes old new (e.DropAliasEntry path) = RemovesNode old new path
ChangesNodes old new (e.AddFile path file) = PutsNode old new path System file
ChangesNodes old new (e.DropFileEntries file) = RemovesNames old new file

-- ---- what an edit changes

-- the node of a new name, with its number, to which its path then leads
pub record IsMadeNode (nodes : List Numbered) (path : Path) (kind : NodeKind) (file number : ℕ) (node : Node) : Type 0 where
  pub free : IsLeastFree nodes number
  pub hangs : HangsAt nodes path node
  pub kind_is : node.kind ≡ kind
  pub file_is : node.file ≡ file
  pub at : number_of (with_numbered_node nodes number node) path ≡ Some number

-- the node of a new alias of the file that the node at the end of a path names
pub record IsMadeAlias (nodes : List Numbered) (alias path : Path) (number : ℕ) (node : Node) : Type 0 where
  pub file : ℕ
  pub file_is : e.file_at (tree_of nodes) path ≡ Some file
  pub made : IsMadeNode nodes alias Alias file number node

-- the node that an edit puts
abbrev pub IsPutNode : List Numbered → e.TreeEdit → ℕ → Node → Type 0
IsPutNode nodes (e.MakeDir path) number node = IsMadeNode nodes path Directory 0 number node
IsPutNode nodes (e.RenameDir from to) number node = IsMoved nodes from to number node
IsPutNode nodes (e.AddAliasEntry alias path) number node = IsMadeAlias nodes alias path number node
IsPutNode nodes (e.RenameAliasEntry from to) number node = IsMoved nodes from to number node
IsPutNode nodes (e.AddFile path file) number node = IsMadeNode nodes path System file number node
IsPutNode nodes _ number node = ⊥

-- the node that goes by an edit
abbrev pub IsGoneNode : List Numbered → e.TreeEdit → ℕ → Type 0
IsGoneNode nodes (e.DropDir path) number = number_of nodes path ≡ Some number
IsGoneNode nodes (e.DropAliasEntry path) number = number_of nodes path ≡ Some number
IsGoneNode nodes _ number = ⊥

-- the names that go with a file
abbrev pub AreGone : List Numbered → e.TreeEdit → List ℕ → Type 0
AreGone nodes (e.DropFileEntries file) numbers = (n : ℕ) → list_any (λ m. m == n) numbers ≡ is_name_of file (node_at nodes n)
AreGone nodes _ numbers = ⊥

-- What an edit changes: it puts one node, or one goes, or the names of a file.
abbrev pub IsChange : List Numbered → e.TreeEdit → TreeChange → Type 0
IsChange nodes edit (change.Put number node) = IsPutNode nodes edit number node
IsChange nodes edit (change.Gone number) = IsGoneNode nodes edit number
IsChange nodes edit (change.NamesGone numbers) = AreGone nodes edit numbers.items

abbrev pub nodes_after : List Numbered → TreeChange → List Numbered
nodes_after nodes (change.Put number node) = with_numbered_node nodes number node
nodes_after nodes (change.Gone number) = without_numbered_node nodes number
nodes_after nodes (change.NamesGone numbers) = without_all nodes numbers.items
