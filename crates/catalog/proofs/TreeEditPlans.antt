-- What an edit of the tree that isn't refused changes, and what a plan of it may rest on.
use Rattle.std.proofs.Common.{◌≡◌, ℕ, true, false, List, [], Option, Some, None, refl, sym, ap, subst, ◌∙◌, inl, inr, ◌⊎◌}
use Rattle.std.specs.Prelude.{◌||◌, is_some, not, Result, Ok, Err}
use Rattle.std.proofs.lemmas.Bool.{eq-eqb, true≢false}
use Rattle.std.proofs.lemmas.Option.{none-some}
use Rattle.asm_group.specs.declared.NodeKind.{NodeKind}
use Rattle.asm_group.specs.declared.NodeKind.TheVariants.{Directory, System, Alias}
use Rattle.asm_group.specs.Names.{Path, folded_path}
use Rattle.asm_group.specs.Refusal as r
use Rattle.asm_group.specs.Causes.{first_cause, unless_refused}
use Rattle.asm_group.specs.TreeEdits as e
use Rattle.asm_group.specs.TreeEdits.{Tree, edit_causes, edited, entry_at, file_at, file_of_entry, has_alias, has_entries, is_alias_of, is_dir, is_dir_entry, is_file, is_root, is_system_entry, is_there, lacks_parent, up}
use Rattle.asm_formats.specs.Items.{FileHead, Key, Node}
use Rattle.asm_formats.specs.Nodes.{entry_of_node, node_kind}
use Rattle.asm_base.specs.Records.{DirectoryRecord}
use Rattle.refusal_lines.specs.Refusals.{meaning_of}
use Rattle.refusal_lines.specs.declared.refusal.Refusal.{Refusal}
use Rattle.refusal_lines.specs.declared.refusal.Refusal.TheVariants as cause
use Rattle.asm_base.proofs.Exact.{some_is}
use Rattle.plan_records.specs.alias_edits.declared.editing.TreeError.{TreeError}
use Rattle.plan_records.specs.alias_edits.declared.planning.TreeChange.{TreeChange}
use Rattle.plan_records.specs.alias_edits.declared.planning.TreeChange.TheVariants as change
use Rattle.plan_records.specs.alias_edits.Edits.{ChangesNodes, IsChange, IsPutNode, IsRefusal, cause_said, nodes_after}
use Rattle.plan_records.specs.alias_tree.Nodes.{IsNodeTable, Numbered, kind_is_directory, node_at, number_of, with_numbered_node}
use Rattle.plan_records.specs.alias_tree.Trees.{tree_of}
use Rattle.plan_records.proofs.alias_edits.Allowed.{both_false, dir_node, four_false, not_false, number_is, three_false, two_false}
use Rattle.plan_records.proofs.alias_edits.Done.{drops_dir, entry_number, named_file}
use Rattle.plan_records.proofs.alias_tree.IndexLaws.{at_member}
use Rattle.plan_records.proofs.alias_tree.Leading.{any_of, leads_is, member_among, shows}
use Rattle.plan_records.specs.file_directory.Files.{NumberedFile, head_at, is_file_number as is_held}
use Rattle.catalog.specs.Plans.{IsPlan}
use Rattle.asm_placement.specs.Naming.{is_kind_directory, names_back}
use Rattle.plan_records.specs.catalog_tables.Rules.{KeepsRules}
use Rattle.plan_records.specs.catalog_tables.Tables.{Catalogued, Tables}
use Rattle.catalog.specs.TreePlans.{HasNoAlias, IsTreeFull, IsTreePlan, IsTreeRefusal, LacksNode, MayChange, files_with_alias, aliased_head, files_after, heads_after, keeps_files, makes_node}
use Rattle.asm_group.specs.Shape.{Shape}
use Rattle.catalog.proofs.TreePlans.{named_of}

-- an edit that is done has no cause
none_of : (t u : Tree) (edit : e.TreeEdit) → edited t edit ≡ Ok u → first_cause (edit_causes t edit) ≡ None
none_of t u edit done = by (first_cause (edit_causes t edit)) refl where
  by : (o : Option r.Refusal) → first_cause (edit_causes t edit) ≡ o → o ≡ None
  by None q = refl
  by (Some why) q = let both : ◌≡◌ {A = Result Tree r.Refusal} (Err why) (Ok u) = sym (ap (λ (o : Option r.Refusal). unless_refused o (e.changed t edit)) q) ∙ done in absurd cc

-- ---- nodes by their paths

directory_is : (kind : NodeKind) → kind_is_directory kind ≡ true → kind ≡ Directory
directory_is Directory h = refl
directory_is System h = absurd (true≢false (sym h))
directory_is Alias h = absurd (true≢false (sym h))

-- a name of a file, with its node
record IsNameAt (nodes : List Numbered) (path : Path) (f : ℕ) : Type 0 where
  number : ℕ
  node : Node
  at : node_at nodes number ≡ Some node
  found : number_of nodes path ≡ Some number
  file : node.file ≡ f
  entry : entry_at (tree_of nodes) path ≡ Some (entry_of_node node)
  name : kind_is_directory node.kind ≡ false

file_named : (kind : NodeKind) (g f : ℕ) → kind_is_directory kind ≡ false → e.file_of_node (node_kind kind g) ≡ Some f → g ≡ f
file_named Directory g f d h = absurd (true≢false d)
file_named System g f d h = some_is g f h
file_named Alias g f d h = some_is g f h

name_at : (nodes : List Numbered) (path : Path) (f : ℕ) → IsNodeTable nodes → file_at (tree_of nodes) path ≡ Some f → IsNameAt nodes path f
name_at nodes path f t h =
    let x = named_file nodes path t (ap (λ (o : Option ℕ). not (is_some o)) h) in
    record { number = x.0; node = x.1; at = x.3; found = x.2; file = file_named x.1.kind x.1.file f x.5 (sym (ap file_of_entry x.4) ∙ h); entry = x.4; name = x.5 }

some_of : (o : Option ℕ) → is_some o ≡ true → (f : ℕ) × (o ≡ Some f)
some_of None h = absurd (true≢false (sym h))
some_of (Some f) h = (f, refl)

-- the directory that goes
dir_goes : (nodes : List Numbered) (path : Path) (n : ℕ) → IsNodeTable nodes → first_cause (edit_causes (tree_of nodes) (e.DropDir path)) ≡ None → number_of nodes path ≡ Some n → (x : Node) × (node_at nodes n ≡ Some x) × (x.kind ≡ Directory)
dir_goes nodes path n t none found =
    let f = three_false (is_root path || not (is_there (tree_of nodes) path)) (not (is_dir (tree_of nodes) path)) (has_entries (tree_of nodes) path) r.NoName r.NotDirectory r.NotEmpty none in
    let root = (both_false (is_root path) (not (is_there (tree_of nodes) path)) f.0).0 in
    let dir : (is_root path || is_dir_entry (entry_at (tree_of nodes) path)) ≡ true = not_false (is_dir (tree_of nodes) path) f.1 in
    let entry : is_dir_entry (entry_at (tree_of nodes) path) ≡ true = rw root at dir in
    let x = entry_number nodes path t (drops_dir nodes path none).there in
    let same : x.0 ≡ n = some_is x.0 n (sym x.2 ∙ found) in
    let shown = shows nodes (folded_path path) x.0 x.1 t (sym (number_is nodes path) ∙ x.2) x.3 in
    (x.1, ap (λ (k : ℕ). node_at nodes k) (sym same) ∙ x.3, directory_is x.1.kind (sym (dir_node x.1) ∙ (sym (ap is_dir_entry shown) ∙ entry)))

-- the alias that goes
record Unnames (nodes : List Numbered) (path : Path) (n : ℕ) : Type 0 where
  node : Node
  at : node_at nodes n ≡ Some node
  kind : node.kind ≡ Alias
  file : file_at (tree_of nodes) path ≡ Some node.file

alias_is : (kind : NodeKind) (f : ℕ) → kind_is_directory kind ≡ false → e.is_system_node (node_kind kind f) ≡ false → kind ≡ Alias
alias_is Directory f d h = absurd (true≢false d)
alias_is System f d h = absurd (true≢false h)
alias_is Alias f d h = refl

alias_goes : (nodes : List Numbered) (path : Path) (n : ℕ) → IsNodeTable nodes → first_cause (edit_causes (tree_of nodes) (e.DropAliasEntry path)) ≡ None → number_of nodes path ≡ Some n → Unnames nodes path n
alias_goes nodes path n t none found =
    let f = two_false (not (is_file (tree_of nodes) path)) (is_system_entry (entry_at (tree_of nodes) path)) r.NoName r.SystemName none in
    let o = some_of (file_at (tree_of nodes) path) (not_false (is_file (tree_of nodes) path) f.0) in
    let x = name_at nodes path o.0 t o.1 in
    let same : x.number ≡ n = some_is x.number n (sym x.found ∙ found) in
    record {
      node = x.node;
      at = ap (λ (k : ℕ). node_at nodes k) (sym same) ∙ x.at;
      kind = alias_is x.node.kind x.node.file x.name (sym (ap is_system_entry x.entry) ∙ f.1);
      file = o.1 ∙ ap (λ (g : ℕ). Some g) (sym x.file);
    }

-- a file without an alias has no node that is one
no_alias : (nodes : List Numbered) (f : ℕ) → IsNodeTable nodes → has_alias (tree_of nodes) (Some f) ≡ false → HasNoAlias nodes f
no_alias nodes f t none m y at kind file =
    true≢false (sym (any_of (λ (x : Numbered). is_alias_of f (node_kind x.1.kind x.1.file)) nodes (m, y) (member_among nodes (m, y) (at_member nodes m y at)) (rw (kind, file) (eq-eqb f f refl)))
    ∙ (sym (leads_is nodes (is_alias_of f) t) ∙ none))

-- ---- what a plan may rest on

module _ (s : Shape) (t : Tables) (rules : KeepsRules s t) where
  -- a name's file has a head
  has_head : (n : ℕ) (x : Node) → node_at t.nodes n ≡ Some x → kind_is_directory x.kind ≡ false → is_held t.files x.file ≡ true
  has_head n x at name = by x.kind (head_at t.files x.file) name (named_of s t rules n x at) where
    by : (kind : NodeKind) (o : Option FileHead) → kind_is_directory kind ≡ false → (is_kind_directory kind || names_back kind n o) ≡ true → is_some o ≡ true
    by Directory o d h = absurd (true≢false d)
    by System (Some head) d h = refl
    by Alias (Some head) d h = refl
    by System None d h = absurd (true≢false (sym h))
    by Alias None d h = absurd (true≢false (sym h))

  abbrev tree : Tree
  tree = tree_of t.nodes

  table : IsNodeTable t.nodes
  table = rules.tables.nodes

  pub may_change : (edit : e.TreeEdit) (c : TreeChange) (u : Tree) → IsChange t.nodes edit c → edited tree edit ≡ Ok u → keeps_files edit ≡ true → MayChange t c
  may_change (e.MakeDir path) (change.Put n x) u p done k = rw p.free.free (inl p.kind_is)
  may_change (e.MakeDir path) (change.Gone n) u p done k = absurd p
  may_change (e.MakeDir path) (change.NamesGone ns) u p done k = absurd p
  may_change (e.DropDir path) (change.Put n x) u p done k = absurd p
  may_change (e.DropDir path) (change.Gone n) u p done k = let g = dir_goes t.nodes path n table (none_of tree u (e.DropDir path) done) p in rw g.1 (inl g.2)
  may_change (e.DropDir path) (change.NamesGone ns) u p done k = absurd p
  may_change (e.RenameDir from to) (change.Put n x) u p done k = rw p.was_at (p.kind_is, p.file_is)
  may_change (e.RenameDir from to) (change.Gone n) u p done k = absurd p
  may_change (e.RenameDir from to) (change.NamesGone ns) u p done k = absurd p
  may_change (e.AddAliasEntry alias path) (change.Put n x) u p done k =
      let f = four_false (not (is_file tree path) || lacks_parent tree alias) (is_there tree alias) (not (is_dir tree (up alias))) (has_alias tree (file_at tree path)) r.NoName r.NameTaken r.NotDirectory r.HasAlias (none_of tree u (e.AddAliasEntry alias path) done) in
      let name = name_at t.nodes path p.file table p.file_is in
      let held = has_head name.number name.node name.at name.name in
      let none : has_alias tree (Some p.file) ≡ false = subst (λ (o : Option ℕ). has_alias tree o ≡ false) p.file_is f.3 in
      rw p.made.free.free (inr (record {
        kind = p.made.kind_is;
        file = subst (λ (g : ℕ). is_held t.files g ≡ true) (name.file ∙ sym p.made.file_is) held;
        none = subst (λ (g : ℕ). HasNoAlias t.nodes g) (sym p.made.file_is) (no_alias t.nodes p.file table none);
      }))
  may_change (e.AddAliasEntry alias path) (change.Gone n) u p done k = absurd p
  may_change (e.AddAliasEntry alias path) (change.NamesGone ns) u p done k = absurd p
  may_change (e.RenameAliasEntry from to) (change.Put n x) u p done k = rw p.was_at (p.kind_is, p.file_is)
  may_change (e.RenameAliasEntry from to) (change.Gone n) u p done k = absurd p
  may_change (e.RenameAliasEntry from to) (change.NamesGone ns) u p done k = absurd p
  may_change (e.DropAliasEntry path) (change.Put n x) u p done k = absurd p
  may_change (e.DropAliasEntry path) (change.Gone n) u p done k = let g = alias_goes t.nodes path n table (none_of tree u (e.DropAliasEntry path) done) p in rw g.at (inr g.kind)
  may_change (e.DropAliasEntry path) (change.NamesGone ns) u p done k = absurd p
  may_change (e.AddFile path file) c u p done k = absurd (true≢false (sym k))
  may_change (e.DropFileEntries file) c u p done k = absurd (true≢false (sym k))

  heads_are : (edit : e.TreeEdit) (c : TreeChange) (u : Tree) → IsChange t.nodes edit c → edited tree edit ≡ Ok u → keeps_files edit ≡ true → heads_after t c ≡ files_after t edit (nodes_after t.nodes c)
  heads_are (e.MakeDir path) (change.Put n x) u p done k = rw (p.free.free, p.kind_is) refl
  heads_are (e.MakeDir path) (change.Gone n) u p done k = absurd p
  heads_are (e.MakeDir path) (change.NamesGone ns) u p done k = absurd p
  heads_are (e.DropDir path) (change.Put n x) u p done k = absurd p
  heads_are (e.DropDir path) (change.Gone n) u p done k = let g = dir_goes t.nodes path n table (none_of tree u (e.DropDir path) done) p in rw (g.1, g.2) refl
  heads_are (e.DropDir path) (change.NamesGone ns) u p done k = absurd p
  heads_are (e.RenameDir from to) (change.Put n x) u p done k = rw p.was_at refl
  heads_are (e.RenameDir from to) (change.Gone n) u p done k = absurd p
  heads_are (e.RenameDir from to) (change.NamesGone ns) u p done k = absurd p
  heads_are (e.AddAliasEntry alias path) (change.Put n x) u p done k =
      let new = with_numbered_node t.nodes n x in
      let of_nodes : heads_after t (change.Put n x) ≡ aliased_head t.files p.file n (head_at t.files p.file) = rw (p.made.free.free, p.made.kind_is, p.made.file_is) refl in
      let of_edit : files_with_alias t.files (file_at tree path) (number_of new alias) ≡ files_with_alias t.files (Some p.file) (Some n) =
      ap (λ (o : Option ℕ). files_with_alias t.files o (number_of new alias)) p.file_is ∙ ap (λ (o : Option ℕ). files_with_alias t.files (Some p.file) o) p.made.at in
      of_nodes ∙ sym of_edit
  heads_are (e.AddAliasEntry alias path) (change.Gone n) u p done k = absurd p
  heads_are (e.AddAliasEntry alias path) (change.NamesGone ns) u p done k = absurd p
  heads_are (e.RenameAliasEntry from to) (change.Put n x) u p done k = rw p.was_at refl
  heads_are (e.RenameAliasEntry from to) (change.Gone n) u p done k = absurd p
  heads_are (e.RenameAliasEntry from to) (change.NamesGone ns) u p done k = absurd p
  heads_are (e.DropAliasEntry path) (change.Put n x) u p done k = absurd p
  heads_are (e.DropAliasEntry path) (change.Gone n) u p done k = let g = alias_goes t.nodes path n table (none_of tree u (e.DropAliasEntry path) done) p in rw (g.at, g.kind, g.file) refl
  heads_are (e.DropAliasEntry path) (change.NamesGone ns) u p done k = absurd p
  heads_are (e.AddFile path file) c u p done k = absurd (true≢false (sym k))
  heads_are (e.DropFileEntries file) c u p done k = absurd (true≢false (sym k))

-- an edit that puts a node at a free number makes it
makes : (nodes : List Numbered) (edit : e.TreeEdit) (n : ℕ) (x : Node) → IsPutNode nodes edit n x → node_at nodes n ≡ None → makes_node edit ≡ true
makes nodes (e.MakeDir path) n x p free = refl
makes nodes (e.DropDir path) n x p free = absurd p
makes nodes (e.RenameDir from to) n x p free = absurd (none-some p.was (sym free ∙ p.was_at))
makes nodes (e.AddAliasEntry alias path) n x p free = refl
makes nodes (e.RenameAliasEntry from to) n x p free = absurd (none-some p.was (sym free ∙ p.was_at))
makes nodes (e.DropAliasEntry path) n x p free = absurd p
makes nodes (e.AddFile path file) n x p free = refl
makes nodes (e.DropFileEntries file) n x p free = absurd p

-- ---- the answers of a plan

pub tree_planned : (c : Catalogued) (edit : e.TreeEdit) (ch : TreeChange) (put : List DirectoryRecord) (gone : List Key) → KeepsRules c.shape c.tables → IsChange c.tables.nodes edit ch → keeps_files edit ≡ true
    → edited (tree_of c.tables.nodes) edit ≡ Ok (tree_of (nodes_after c.tables.nodes ch)) → ChangesNodes c.tables.nodes (nodes_after c.tables.nodes ch) edit
    → IsPlan c put gone (record c.tables { nodes = nodes_after c.tables.nodes ch; files = heads_after c.tables ch }) → IsTreePlan c edit put gone
tree_planned c edit ch put gone rules is k done changes plan = record {
  nodes = nodes_after c.tables.nodes ch;
  edited = done;
  changes = changes;
  plan = subst (λ (fs : List NumberedFile). IsPlan c put gone (record c.tables { nodes = nodes_after c.tables.nodes ch; files = fs })) (heads_are c.shape c.tables rules edit ch (tree_of (nodes_after c.tables.nodes ch)) is done k) plan;
}

full_is : (c : Catalogued) (edit : e.TreeEdit) (ch : TreeChange) (u : Tree) → IsChange c.tables.nodes edit ch → edited (tree_of c.tables.nodes) edit ≡ Ok u → IsTreeFull c ch → LacksNode c edit
full_is c edit (change.Put n x) u is done full = record { makes = makes c.tables.nodes edit n x is full.0; done = (u, done); full = full.1 }
full_is c edit (change.Gone n) u is done full = absurd full
full_is c edit (change.NamesGone ns) u is done full = absurd full

pub plan_refused : (c : Catalogued) (edit : e.TreeEdit) (ch : TreeChange) (u : Tree) (refusal : Refusal) → IsChange c.tables.nodes edit ch → edited (tree_of c.tables.nodes) edit ≡ Ok u
    → (refusal ≡ cause.NoMemory) ⊎ ((refusal ≡ cause.DirectoryFull 1 0) × IsTreeFull c ch) → IsTreeRefusal c edit refusal
unfolding meaning_of
plan_refused c edit ch u refusal is done (inl memory) = inl (rw memory refl)
plan_refused c edit ch u refusal is done (inr (full, lacks)) = inr (inr (full, full_is c edit ch u is done lacks))

pub edit_refused : (c : Catalogued) (edit : e.TreeEdit) (error : TreeError) (refusal : Refusal) → meaning_of (λ n. []) refusal ≡ cause_said error → IsRefusal (edited (tree_of c.tables.nodes) edit) error → IsTreeRefusal c edit refusal
edit_refused c edit error refusal same (inl memory) = inl (same ∙ memory)
edit_refused c edit error refusal same (inr why) = inr (inl (why ∙ ap (λ (w : r.Refusal). Err w) (sym same)))
