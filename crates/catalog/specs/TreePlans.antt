-- What a plan of an edit of the tree of names is.
use Rattle.std.specs.Prelude.{◌≡◌, ◌⊎◌, ℕ, ◌+◌, Bool, true, false, List, [], Option, Some, None, Ok, Err, if◌then◌else◌}
use Rattle.asm_group.specs.Refusal as r
use Rattle.asm_group.specs.TreeEdits.{Tree, TreeEdit, MakeDir, AddAliasEntry, DropAliasEntry, AddFile, DropFileEntries, edited, file_at}
use Rattle.asm_group.specs.declared.NodeKind.{NodeKind}
use Rattle.asm_group.specs.declared.NodeKind.TheVariants.{Directory, Alias}
use Rattle.asm_formats.specs.Items.{FileHead, Key, Node}
use Rattle.asm_base.specs.Records.{DirectoryRecord}
use Rattle.refusal_lines.specs.Refusals.{meaning_of}
use Rattle.refusal_lines.specs.declared.refusal.Refusal.{Refusal}
use Rattle.refusal_lines.specs.declared.refusal.Refusal.TheVariants as cause
use Rattle.plan_records.specs.alias_edits.declared.planning.TreeChange.{TreeChange}
use Rattle.plan_records.specs.alias_edits.declared.planning.TreeChange.TheVariants as change
use Rattle.plan_records.specs.alias_edits.Edits.{ChangesNodes}
use Rattle.plan_records.specs.alias_tree.Nodes.{Numbered, node_at, number_of}
use Rattle.plan_records.specs.alias_tree.Trees.{tree_of}
use Rattle.plan_records.specs.file_directory.Files.{NumberedFile, head_at, is_file_number, with_head}
pub use Rattle.plan_records.specs.Heads.{head_with_alias}
use Rattle.catalog.specs.Plans.{IsPlan}
use Rattle.plan_records.specs.catalog_tables.Rules.{blocks_used}
use Rattle.plan_records.specs.catalog_tables.Tables.{Catalogued, Tables}

-- the edit gives no file its system name, and takes no file's names
abbrev pub keeps_files : TreeEdit → Bool
keeps_files (AddFile path file) = false
keeps_files (DropFileEntries file) = false
keeps_files _ = true

-- the edit makes a node
abbrev pub makes_node : TreeEdit → Bool
makes_node (MakeDir path) = true
makes_node (AddAliasEntry alias path) = true
makes_node (AddFile path file) = true
makes_node _ = false

abbrev pub aliased_head : List NumberedFile → ℕ → ℕ → Option FileHead → List NumberedFile
aliased_head files f n None = files
aliased_head files f n (Some head) = with_head files f (head_with_alias head n)

-- the files, of which one has this alias node
abbrev pub files_with_alias : List NumberedFile → Option ℕ → Option ℕ → List NumberedFile
files_with_alias files (Some f) (Some n) = aliased_head files f n (head_at files f)
files_with_alias files _ _ = files

-- The files after an edit that leads to these nodes: the one that gets an alias has its node, and the one that loses it has none.
abbrev pub files_after : Tables → TreeEdit → List Numbered → List NumberedFile
files_after t (AddAliasEntry alias path) new = files_with_alias t.files (file_at (tree_of t.nodes) path) (number_of new alias)
files_after t (DropAliasEntry path) new = files_with_alias t.files (file_at (tree_of t.nodes) path) (Some 0)
files_after t _ new = t.files

-- ---- what a change of the nodes does to the files

abbrev pub is_alias : NodeKind → Bool
is_alias Alias = true
is_alias _ = false

-- a node goes
abbrev pub heads_without : List NumberedFile → Option Node → List NumberedFile
heads_without files None = files
heads_without files (Some x) = if is_alias x.kind then aliased_head files x.file 0 (head_at files x.file) else files

-- a node is put at a number, where that one was or none
abbrev pub heads_with : List NumberedFile → ℕ → Node → Option Node → List NumberedFile
heads_with files n x None = if is_alias x.kind then aliased_head files x.file n (head_at files x.file) else files
heads_with files n x (Some was) = files

-- the files with the aliases that the nodes then are
abbrev pub heads_after : Tables → TreeChange → List NumberedFile
heads_after t (change.Put n x) = heads_with t.files n x (node_at t.nodes n)
heads_after t (change.Gone n) = heads_without t.files (node_at t.nodes n)
heads_after t (change.NamesGone ns) = t.files

-- the node that is put is a new directory's, or has the kind and the file of the one that is there
abbrev pub KeepsName : Option Node → Node → Type 0
KeepsName None x = x.kind ≡ Directory
KeepsName (Some was) x = (x.kind ≡ was.kind) × (x.file ≡ was.file)

-- no node is an alias of the file
abbrev pub HasNoAlias : List Numbered → ℕ → Type 0
HasNoAlias nodes f = (n : ℕ) (x : Node) → node_at nodes n ≡ Some x → x.kind ≡ Alias → x.file ≡ f → ⊥

-- a new alias of a file that has none
pub record IsNewAlias (t : Tables) (x : Node) : Type 0 where
  pub kind : x.kind ≡ Alias
  pub file : is_file_number t.files x.file ≡ true
  pub none : HasNoAlias t.nodes x.file

-- the node that is put keeps its kind and its file, or is a new directory or alias
abbrev pub MayPutNode : Tables → Node → Option Node → Type 0
MayPutNode t x None = (x.kind ≡ Directory) ⊎ IsNewAlias t x
MayPutNode t x (Some was) = (x.kind ≡ was.kind) × (x.file ≡ was.file)

-- the node that goes is a directory or an alias
abbrev pub MayGo : Option Node → Type 0
MayGo None = ⊥
MayGo (Some x) = (x.kind ≡ Directory) ⊎ (x.kind ≡ Alias)

-- no system name comes or goes, and no second alias comes
abbrev pub MayChange : Tables → TreeChange → Type 0
MayChange t (change.Put n x) = MayPutNode t x (node_at t.nodes n)
MayChange t (change.Gone n) = MayGo (node_at t.nodes n)
MayChange t (change.NamesGone ns) = ⊥

-- a node is new, and no block is free
abbrev pub IsTreeFull : Catalogued → TreeChange → Type 0
IsTreeFull c (change.Put n x) = (node_at c.tables.nodes n ≡ None) × (blocks_used c.tables + 2 ≡ c.shape.dir_blocks)
IsTreeFull c _ = ⊥

-- the change leads to the catalog's tables with the tree after the edit, and with the aliases of the files that it says
pub record IsTreePlan (c : Catalogued) (edit : TreeEdit) (put : List DirectoryRecord) (gone : List Key) : Type 0 where
  pub nodes : List Numbered
  pub edited : edited (tree_of c.tables.nodes) edit ≡ Ok (tree_of nodes)
  pub changes : ChangesNodes c.tables.nodes nodes edit
  pub plan : IsPlan c put gone (record c.tables { nodes = nodes; files = files_after c.tables edit nodes })

-- The edit makes a node and would be done, and no block is free.
pub record LacksNode (c : Catalogued) (edit : TreeEdit) : Type 0 where
  pub makes : makes_node edit ≡ true
  pub done : (u : Tree) × (edited (tree_of c.tables.nodes) edit ≡ Ok u)
  pub full : blocks_used c.tables + 2 ≡ c.shape.dir_blocks

-- want of memory, why the edit is refused, or want of a block
abbrev pub IsTreeRefusal : Catalogued → TreeEdit → Refusal → Type 0
IsTreeRefusal c edit refusal =
    (meaning_of (λ n. []) refusal ≡ r.NoMemory) ⊎ ((edited (tree_of c.tables.nodes) edit ≡ Err (meaning_of (λ n. []) refusal)) ⊎ ((refusal ≡ cause.DirectoryFull 1 0) × LacksNode c edit))
