-- What is asked of a new file's name and size before anything is made.
use Rattle.std.specs.Prelude.{◌≡◌, ◌⊎◌, ℕ, ◌%◌, ◌==◌, Bool, true, not, List, [], ◌∷◌, Option, Some, None, Ok}
use Rattle.asm_group.specs.Causes.{Causes, first_cause}
use Rattle.asm_group.specs.Names.{Path}
use Rattle.asm_group.specs.Refusal as r
use Rattle.asm_group.specs.Shape.{Shape}
use Rattle.asm_group.specs.TreeEdits.{Tree}
use Rattle.refusal_lines.specs.Refusals.{meaning_of}
use Rattle.refusal_lines.specs.declared.refusal.Refusal.{Refusal}
use Rattle.plan_records.specs.asm_world.Files.{NewName}
use Rattle.plan_records.specs.alias_edits.Filing.{file_causes, nodes_missing}
use Rattle.plan_records.specs.alias_tree.Trees.{tree_of}
use Rattle.plan_records.specs.NewNames.{name_at}
use Rattle.catalog.specs.NamePlans.{filed_as, made_file, path_for, system_path}
use Rattle.catalog.specs.Numbers.{IsNextFile}
use Rattle.plan_records.specs.catalog_tables.Tables.{Catalogued, Tables}

-- Why a file of this name, size and number can't be made, in the order in which it is tried.
abbrev pub check_causes : Shape → Tables → Option NewName → ℕ → ℕ → Causes
check_causes s t None size file = (true, r.NoTemplate) ∷ []
check_causes s t (Some name) size file = (not (size % s.sector == 0), r.NotSectors) ∷ file_causes (tree_of t.nodes) (path_for t name file)

-- A file of this number may have the name, which makes so many nodes.
pub record IsPathCheck (t : Tables) (name : NewName) (file nodes : ℕ) : Type 0 where
  pub free : first_cause (file_causes (tree_of t.nodes) (path_for t name file)) ≡ None
  pub count : nodes ≡ nodes_missing (tree_of t.nodes) (path_for t name file)

-- want of memory, or why it may not
abbrev pub IsPathRefusal : Tables → NewName → ℕ → Refusal → Type 0
IsPathRefusal t name file refusal =
    (meaning_of (λ n. []) refusal ≡ r.NoMemory) ⊎ (first_cause (file_causes (tree_of t.nodes) (path_for t name file)) ≡ Some (meaning_of (λ n. []) refusal))

-- The next file may be made at the path with this size, and its name makes so many nodes.
pub record IsNameCheck (c : Catalogued) (path : Path) (size nodes : ℕ) : Type 0 where
  pub file : ℕ
  pub next : IsNextFile c.tables file
  pub name : NewName
  pub name_is : name_at path ≡ Some name
  pub free : first_cause (check_causes c.shape c.tables (Some name) size file) ≡ None
  pub count : nodes ≡ nodes_missing (tree_of c.tables.nodes) (path_for c.tables name file)

-- want of memory, or why the next file can't be made at the path with this size
abbrev pub IsCheckRefusal : Catalogued → Path → ℕ → Refusal → Type 0
IsCheckRefusal c path size refusal =
    (meaning_of (λ n. []) refusal ≡ r.NoMemory)
    ⊎ ((file : ℕ) × IsNextFile c.tables file × (first_cause (check_causes c.shape c.tables (name_at path) size file) ≡ Some (meaning_of (λ n. []) refusal)))

-- ---- what is kept of it while the file is made

-- Tables with the same tree and settings, as after chunks and a pending operation, have the same causes.
abbrev pub ChecksAgree : Type 0
ChecksAgree =
    (s : Shape) (t u : Tables) (name : Option NewName) (size file : ℕ) → u.nodes ≡ t.nodes → u.templates.settings ≡ t.templates.settings
    → check_causes s u name size file ≡ check_causes s t name size file

-- the file that is being made may have the name, which makes as many nodes as those of the file of this number did
pub record HoldsStill (t u : Tables) (name : NewName) (file : ℕ) : Type 0 where
  pub filed : (v : Tree) × (filed_as u (Some name) ≡ Ok v)
  pub count : nodes_missing (tree_of u.nodes) (system_path u name) ≡ nodes_missing (tree_of t.nodes) (path_for t name file)

-- What was found of a file's name holds where an operation on this file is pending.
abbrev pub ChecksHold : Type 0
ChecksHold =
    (s : Shape) (t u : Tables) (name : NewName) (size file : ℕ) → u.nodes ≡ t.nodes → u.templates.settings ≡ t.templates.settings → made_file u ≡ file
    → first_cause (check_causes s t (Some name) size file) ≡ None → HoldsStill t u name file
