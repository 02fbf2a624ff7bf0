-- Files by their paths, as the world has them.
use Rattle.std.proofs.Common.{◌≡◌, ℕ, true, false, List, length, Option, Some, None, refl, sym, ap, ◌∙◌}
use Rattle.std.specs.Prelude.{◌||◌, is_some, if◌then◌else◌}
use Rattle.std.specs.FinMap as maps
use Rattle.std.specs.Option.{option_and_then, option_map}
use Rattle.std.proofs.lemmas.Bool.{false≢true}
use Rattle.std.proofs.lemmas.Option.{none-some, same_Some}
use Rattle.asm_group.specs.declared.NodeKind.{NodeKind}
use Rattle.asm_group.specs.declared.NodeKind.TheVariants.{Directory, System, Alias}
use Rattle.asm_group.specs.Group.{Cell, File, Group}
use Rattle.asm_group.specs.Names.{Bytes, Path}
use Rattle.asm_group.specs.Shape.{Shape}
use Rattle.asm_group.specs.TreeEdits as tree
use Rattle.asm_formats.specs.Items.{Node}
use Rattle.asm_formats.specs.Nodes.{entry_of_node, node_kind}
use Rattle.asm_placement.specs.Naming.{is_kind_directory, names_back}
use Rattle.asm_world.specs.Edits as e
use Rattle.asm_world.specs.Files as f
use Rattle.alias_tree.specs.Nodes.{node_at, number_of}
use Rattle.alias_tree.specs.Trees.{tree_of}
use Rattle.file_directory.specs.Files.{head_at}
use Rattle.report_laws.proofs.catalog.NumberedEntries.{found_passes}
use Rattle.catalog_tables.specs.Rules as rules
use Rattle.catalog_tables.specs.Rules.{KeepsRules}
use Rattle.catalog_tables.specs.Tables.{AreTables, Tables}
use Rattle.report_laws.specs.group_of.Groups.{HasCells, file_of_head, files_by_number, group_of}
use Rattle.report_laws.proofs.group_of.HeadedFiles.{file_at, files_are}
use Rattle.session.specs.group_contents.Files.{IsOpened, file_named_by_node, head_named, named_file_number}
use Rattle.session.specs.group_contents.declared.opening.OpenFile.{OpenFile}
use Rattle.report_laws.proofs.Spelling.{entry_by}

same_kind : (kind : NodeKind) (file : ℕ) → tree.file_of_node (node_kind kind file) ≡ (if is_kind_directory kind then None else Some file)
same_kind Directory file = refl
same_kind System file = refl
same_kind Alias file = refl

same_node : (o : Option Node) → tree.file_of_entry (option_map entry_of_node o) ≡ option_and_then file_named_by_node o
same_node None = refl
same_node (Some node) = same_kind node.kind node.file

module _ (name : Bytes) (s : Shape) (t : Tables) (cells : ℕ → List Cell) (path : Path) (tables : AreTables t) where
  abbrev g : Group
  g = group_of name s t cells

  tree_is : g.tree ≡ tree_of t.nodes
  unfolding group_of
  tree_is = refl

  files_are_heads : g.files ≡ files_by_number cells t.files
  unfolding group_of
  files_are_heads = refl

  pub shape_is : g.shape ≡ s
  unfolding group_of
  shape_is = refl

  joined : (o : Option ℕ) → option_and_then file_named_by_node (option_and_then (λ n. node_at t.nodes n) o) ≡ option_and_then (λ n. option_and_then file_named_by_node (node_at t.nodes n)) o
  joined None = refl
  joined (Some n) = refl

  number_is : e.group_file_at g path ≡ named_file_number t path
  number_is = ap tree.file_of_entry (entry_by t.nodes tables.nodes g tree_is path) ∙ same_node (option_and_then (λ n. node_at t.nodes n) (number_of t.nodes path)) ∙ joined (number_of t.nodes path)

  got : (n : ℕ) → maps.get g.files n ≡ file_at cells n (head_at t.files n)
  got n = ap (λ m. maps.get m n) files_are_heads ∙ files_are cells t.files n

  -- ---- a file that is open

  module _ (file : OpenFile) (opened : IsOpened t path file) where
    abbrev pub the_file : File
    the_file = file_of_head opened.head (cells file.file)

    pub number : e.group_file_at g path ≡ Some file.file
    number = number_is ∙ opened.number

    pub has_file : maps.get g.files file.file ≡ Some the_file
    has_file = got file.file ∙ ap (file_at cells file.file) opened.at

    pub there : f.named_file g path ≡ Some the_file
    there = ap (f.file_of g) number ∙ has_file

    pub is_file : e.group_has_file g path ≡ true
    is_file = ap (λ (o : Option ℕ). is_some o) number

    pub has_size : HasCells t cells → length (cells file.file) ≡ file.size
    has_size has = has file.file opened.head opened.at ∙ sym opened.size

  -- ---- no file

  names_none : (kind : NodeKind) (n k file : ℕ) → (if is_kind_directory kind then None else Some k) ≡ Some file → head_at t.files file ≡ None → (is_kind_directory kind || names_back kind n (head_at t.files k)) ≡ true → ⊥
  names_none Directory n k file names none passes = none-some file names
  names_none System n k file names none passes = false≢true (sym (ap (names_back System n) (ap (head_at t.files) (same_Some k file names) ∙ none)) ∙ passes)
  names_none Alias n k file names none passes = false≢true (sym (ap (names_back Alias n) (ap (head_at t.files) (same_Some k file names) ∙ none)) ∙ passes)

  -- a node that names a file names one that is there
  no_head : KeepsRules s t → (n file : ℕ) (o : Option Node) → node_at t.nodes n ≡ o → option_and_then file_named_by_node o ≡ Some file → head_at t.files file ≡ None → ⊥
  no_head keeps n file None at names none = none-some file names
  no_head keeps n file (Some node) at names none = names_none node.kind n node.file file names none (found_passes (rules.is_named_back t) t.nodes n node keeps.nodes at)

  no_name : KeepsRules s t → (file : ℕ) (o : Option ℕ) → option_and_then (λ n. option_and_then file_named_by_node (node_at t.nodes n)) o ≡ Some file → head_at t.files file ≡ None → ⊥
  no_name keeps file None names none = none-some file names
  no_name keeps file (Some n) names none = no_head keeps n file (node_at t.nodes n) refl names none

  pub not_file : KeepsRules s t → head_named t path ≡ None → e.group_has_file g path ≡ false
  not_file keeps none = ap (λ (o : Option ℕ). is_some o) number_is ∙ by (named_file_number t path) refl
    where
      by : (o : Option ℕ) → named_file_number t path ≡ o → is_some o ≡ false
      by None is = refl
      by (Some file) is = absurd (no_name keeps file (number_of t.nodes path) is (sym (ap (λ (o : Option ℕ). option_and_then (λ k. head_at t.files k) o) is) ∙ none))
