-- What the plan of a new file's name asks, and what it leads to.
use Rattle.std.specs.Prelude.{◌≡◌, ◌⊎◌, ℕ, ◌+◌, ◌-◌, ◌^◌, ◌<◌, ◌≤◌, ◌==◌, ◌||◌, not, min, Bool, true, List, [], ◌∷◌, length, Option, Some, None, is_none, Result, Ok, Err, if◌then◌else◌}
use Rattle.std.specs.List.{All, list_all}
use Rattle.asm_group.specs.declared.PendingKind.TheVariants.{Create}
use Rattle.asm_group.specs.declared.Stripe.{Stripe}
use Rattle.asm_group.specs.Group.{File as WorldFile, Group}
use Rattle.asm_group.specs.Names.{Bytes, Path}
use Rattle.asm_group.specs.Refusal as r
use Rattle.asm_group.specs.TreeEdits.{Tree}
use Rattle.asm_formats.specs.Items.{FileHead, Key, Pending, is_item, is_redundancy, node_item}
use Rattle.asm_placement.specs.Layout.{has_extent_by_size}
use Rattle.asm_base.specs.Records.{DirectoryRecord}
use Rattle.refusal_lines.specs.Refusals.{meaning_of}
use Rattle.refusal_lines.specs.declared.refusal.Refusal.{Refusal}
use Rattle.refusal_lines.specs.declared.refusal.Refusal.TheVariants as cause
use Rattle.plan_records.specs.asm_world.Files as world
use Rattle.plan_records.specs.asm_world.Files.{NewName, new_file_causes, new_path, next_incarnation, next_number, is_sectors, template_for}
use Rattle.plan_records.specs.file_directory.Files.{head_at, with_head}
use Rattle.plan_records.specs.extent_map.Extents.{Chunked, extent_at}
use Rattle.plan_records.specs.alias_edits.Filing.{IsFiling, file_causes, tree_with_file, nodes_missing, with_nodes}
use Rattle.plan_records.specs.alias_edits.Filing as of_tree
use Rattle.plan_records.specs.alias_tree.Nodes.{IsNodeTable, Numbered, node_at}
use Rattle.plan_records.specs.alias_tree.Trees.{tree_of}
pub use Rattle.plan_records.specs.NewNames.{name_at}
use Rattle.plan_records.specs.NextSettings.{settings_next}
use Rattle.catalog.specs.Plans.{IsPlan}
use Rattle.plan_records.specs.catalog_tables.Rules.{are_within, blocks_used, has_copies}
use Rattle.plan_records.specs.catalog_tables.Rules as rules
use Rattle.plan_records.specs.catalog_tables.Tables.{Catalogued, Tables}

-- ---- the file that is made

-- a chunk has no home of the file at a copy number that isn't below these copies
abbrev pub is_within_file : ℕ → ℕ → Chunked → Bool
is_within_file f copies x = not (x.0.0 == f) || list_all (are_within copies) x.1

-- A file is being made that has no head yet, and its extents are those of a file of this size, with so many copies and this stripe.
pub record IsFileBeingMade (c : Catalogued) (size copies : ℕ) (stripe : Stripe) : Type 0 where
  pub file : ℕ
  pub kept : ℕ
  pub pending : c.tables.operations.pending ≡ Some (record { kind = Create; file = file; kept = kept })
  pub new : head_at c.tables.files file ≡ None
  -- one, two or three
  pub redundancy : is_redundancy copies ≡ true
  -- each extent that the size asks for is there with all its copies, and no extent of the file has more
  pub extents : (i : ℕ) → has_extent_by_size stripe c.shape.au c.shape.step size i ≡ true → has_copies copies (extent_at c.tables.extents file i) ≡ true
  pub within : rules.first_wrong (is_within_file file copies) c.tables.extents ≡ None

-- the file of an operation; 0 where there is none
abbrev pub operation_file : Option Pending → ℕ
operation_file None = 0
operation_file (Some op) = op.file

-- the file that the pending operation is on
abbrev pub made_file : Tables → ℕ
made_file t = operation_file t.operations.pending

-- ---- its name

-- the path of the system name of a file, which has the file's number and the next incarnation behind the tag
abbrev pub path_for : Tables → NewName → ℕ → Path
path_for t name file = new_path name file t.templates.settings.incarnation

-- that of the file that is being made
abbrev pub system_path : Tables → NewName → Path
system_path t name = path_for t name (made_file t)

-- The tree of names with the file's, and with each directory above it that is missing; or why it can't be there.
abbrev pub filed_as : Tables → Option NewName → Result Tree r.Refusal
filed_as t None = Err r.NoTemplate
filed_as t (Some name) = tree_with_file (tree_of t.nodes) (system_path t name) (made_file t)

-- The nodes of a new file's name: with them the tree is that with the name, and none of them was there.
pub record AreNewNodes (nodes made : List Numbered) (path : Path) (file : ℕ) : Type 0 where
  pub filed : tree_with_file (tree_of nodes) path file ≡ Ok (tree_of (with_nodes nodes made))
  pub filing : IsFiling nodes made path file
  pub table : IsNodeTable (with_nodes nodes made)
  pub fresh : All (λ (x : Numbered). node_at nodes x.0 ≡ None) made
  pub items : All (λ (x : Numbered). is_item (node_item x.0 x.1) ≡ true) made
  pub count : length made ≡ nodes_missing (tree_of nodes) path
  pub few : length made ≤ 3

-- ---- the tables with it

-- the head of the file, whose system name is this node
abbrev pub new_head : Tables → NewName → ℕ → ℕ → Stripe → ℕ → FileHead
new_head t name size copies stripe system = record {
  copies = copies;
  stripe = stripe;
  type_name = name.type_name;
  size = size;
  incarnation = t.templates.settings.incarnation;
  system = system;
  alias = 0;
}

-- the tables with the head of a file and these nodes, and the next incarnation; no operation is pending
abbrev pub tables_with_name : Tables → ℕ → FileHead → List Numbered → Tables
tables_with_name t f head made = record t {
  files = with_head t.files f head;
  nodes = with_nodes t.nodes made;
  templates = record t.templates { settings = settings_next t.templates.settings };
  operations = record t.operations { pending = None };
}

-- ---- the answers

-- The change leads to the catalog's tables with the file and its name.
pub record IsNamePlan (c : Catalogued) (path : Path) (size copies : ℕ) (stripe : Stripe) (put : List DirectoryRecord) (gone : List Key) : Type 0 where
  pub name : NewName
  pub name_is : name_at path ≡ Some name
  pub made : List Numbered
  pub filed : tree_with_file (tree_of c.tables.nodes) (system_path c.tables name) (made_file c.tables) ≡ Ok (tree_of (with_nodes c.tables.nodes made))
  pub filing : IsFiling c.tables.nodes made (system_path c.tables name) (made_file c.tables)
  pub plan : IsPlan c put gone (tables_with_name c.tables (made_file c.tables) (new_head c.tables name size copies stripe filing.number) made)
  -- a head, at most three nodes and the settings; and the pending operation
  pub puts : length put ≤ 5
  pub goes : length gone ≡ 1

-- The name could be there, and the head and the nodes that are missing want more blocks than are free.
pub record LacksRoom (c : Catalogued) (path : Path) (need free : ℕ) : Type 0 where
  pub name : NewName
  pub name_is : name_at path ≡ Some name
  pub filed : (u : Tree) × (tree_with_file (tree_of c.tables.nodes) (system_path c.tables name) (made_file c.tables) ≡ Ok u)
  pub need_is : need ≡ nodes_missing (tree_of c.tables.nodes) (system_path c.tables name) + 1
  pub free_is : free + blocks_used c.tables + 2 ≡ c.shape.dir_blocks
  pub few : free < need

-- want of memory, why the name can't be there, or want of blocks
abbrev pub IsNameRefusal : Catalogued → Path → Refusal → Type 0
IsNameRefusal c path refusal =
    (meaning_of (λ n. []) refusal ≡ r.NoMemory)
    ⊎ ((filed_as c.tables (name_at path) ≡ Err (meaning_of (λ n. []) refusal))
    ⊎ ((need : ℕ) × (free : ℕ) × (refusal ≡ cause.DirectoryFull need free) × LacksRoom c path need free))

-- ---- a new file as asm_world speaks of it

-- The tree of a group with a new file is its tree with the name, and its next incarnation is the one after.
pub record FilesAsWorld : Type 0 where
  pub tree : (g : Group) (name : NewName) (n : ℕ) (f : WorldFile) → (world.group_with_file g name n f).tree ≡ of_tree.with_file g.tree (new_path name n f.incarnation) n
  pub next : (g : Group) (name : NewName) (n : ℕ) (f : WorldFile) → (world.group_with_file g name n f).next ≡ next_incarnation g.next

-- A new file is refused by its template and its size, and then as its name is.
abbrev pub RefusesAsWorld : Type 0
RefusesAsWorld = (g : Group) (name : NewName) (size : ℕ) (template : Option Bytes)
    → new_file_causes g (Some name) size template ≡ (is_none (template_for g name template), r.NoTemplate) ∷ (not (is_sectors g size), r.NotSectors) ∷ file_causes g.tree (new_path name (next_number g) g.next)
