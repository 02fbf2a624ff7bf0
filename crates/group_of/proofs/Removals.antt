-- The world's group without a file, by the tables.
use Rattle.std.proofs.Common.{◌≡◌, ◌⊎◌, ℕ, Bool, true, false, cond, List, length, Option, Some, None, refl, sym, ap, subst, ◌∙◌, arith, inl, inr}
use Rattle.std.specs.Prelude.{◌&&◌, ◌||◌, ◌==◌, not}
use Rattle.std.specs.FinMap as maps
use Rattle.std.specs.Ordering.{nat_cmp, eq_by_cmp}
use Rattle.std.specs.BTreeMap.{is_at}
use Rattle.std.proofs.lemmas.Bool.{and_parts, eqb-true, eqb-false, ne_eqb}
use Rattle.std.proofs.lemmas.Cmp.{nat_cmp_total}
use Rattle.std.proofs.lemmas.Option.{none-some}
use Rattle.asm_group.specs.declared.NodeKind.{NodeKind}
use Rattle.asm_group.specs.declared.NodeKind.TheVariants.{Directory, System, Alias}
use Rattle.asm_group.specs.Shape.{Shape}
use Rattle.asm_group.specs.Group.{Cell}
use Rattle.asm_group.specs.TreeEdits as tree
use Rattle.asm_formats.specs.Items.{FileHead, Node}
use Rattle.asm_formats.specs.Nodes.{node_kind}
use Rattle.asm_placement.specs.Naming.{is_kind_directory, is_named_as, kind_eq, names_back}
use Rattle.catalog_laws.specs.file_directory.Files.{head_at, without_head}
use Rattle.asm_base.specs.Records.{Ascend}
use Rattle.catalog_laws.specs.alias_tree.Numbers.{is_name_of}
use Rattle.catalog_laws.specs.alias_tree.Nodes as nodes
use Rattle.catalog_laws.specs.alias_tree.Nodes.{node_at, without_numbered_node}
use Rattle.catalog_laws.proofs.alias_edits.Growing.{NamesGone, unnamed_tree}
use Rattle.catalog_laws.proofs.alias_tree.Keeping.{at_without, without_items}
use Rattle.catalog_laws.proofs.alias_tree.Leading.{same_bool}
use Rattle.catalog_laws.proofs.alias_tree.Ways.{no_root}
use Rattle.catalog_laws.specs.catalog_tables.Tables.{Tables}
use Rattle.catalog_laws.specs.catalog.FilePlans.{without_names}
use Rattle.catalog_laws.specs.catalog_tables.Rules as rules
use Rattle.catalog_laws.specs.catalog_tables.Rules.{KeepsRules}
use Rattle.catalog_laws.proofs.catalog.NumberedEntries.{found_passes, number_other}
use Rattle.catalog_laws.proofs.catalog_tables.NumberedLists.{either, gone_at, number_is, number_itself}
use Rattle.group_of.specs.Groups.{files_by_number, group_of}
use Rattle.group_of.specs.Files.{RemovalIsWorlds, RemovalKeepsCells}
use Rattle.group_of.proofs.HeadedFiles as files
use Rattle.group_of.proofs.HeadedFiles.{files_are, head_is}
use Rattle.group_of.proofs.EditedGroups.{same_files}

once : (a : Bool) (o : Option Node) → cond a None o ≡ cond (a || false) None o
once true o = refl
once false o = refl

twice : (a b : Bool) (o : Option Node) → cond b None (cond a None o) ≡ cond (a || b) None o
twice true true o = refl
twice true false o = refl
twice false true o = refl
twice false false o = refl

or_true : (a : Bool) → (a || true) ≡ true
or_true true = refl
or_true false = refl

is_at_same : (m n : ℕ) → m ≡ n → is_at (nat_cmp m) n ≡ true
is_at_same m n e = subst (λ (k : ℕ). is_at (nat_cmp m) k ≡ true) e (number_itself m)

-- a node of such a kind is a name
is_name_kind : (f file : ℕ) (a kd : NodeKind) → kind_eq a kd ≡ true → is_kind_directory kd ≡ false → (file == f) ≡ true → tree.names_file f (node_kind a file) ≡ true
is_name_kind f file Directory Directory e d g = absurd cc
is_name_kind f file Directory System e d g = absurd cc
is_name_kind f file Directory Alias e d g = absurd cc
is_name_kind f file System kd e d g = g
is_name_kind f file Alias kd e d g = g

no_name : (f file : ℕ) (kd : NodeKind) → nodes.kind_is_directory kd ≡ true → tree.names_file f (node_kind kd file) ≡ false
no_name f file Directory e = refl
no_name f file System e = absurd cc
no_name f file Alias e = absurd cc

module _ (s : Shape) (t : Tables) (f : ℕ) (head : FileHead) (k : KeepsRules s t) (there : head_at t.files f ≡ Some head) where
  abbrev gone : Bool → ℕ → Bool
  gone none m = is_at (nat_cmp head.system) m || (not none && is_at (nat_cmp head.alias) m)

  at_small : (m : ℕ) → node_at (without_names t.nodes head) m ≡ cond (gone (head.alias == 0) m) None (node_at t.nodes m)
  at_small m = by (head.alias == 0) where
    up : Ascend nodes.is_before t.nodes
    up = k.tables.nodes.items.0

    by : (b : Bool) → node_at (cond b (without_numbered_node t.nodes head.system) (without_numbered_node (without_numbered_node t.nodes head.system) head.alias)) m ≡ cond (gone b m) None (node_at t.nodes m)
    by true = at_without t.nodes head.system m up ∙ once (is_at (nat_cmp head.system) m) (node_at t.nodes m)
    by false =
        at_without (without_numbered_node t.nodes head.system) head.alias m (without_items t.nodes head.system k.tables.nodes.items).0
        ∙ ap (λ (o : Option Node). cond (is_at (nat_cmp head.alias) m) None o) (at_without t.nodes head.system m up)
        ∙ twice (is_at (nat_cmp head.system) m) (is_at (nat_cmp head.alias) m) (node_at t.nodes m)

  by_kind : (m file : ℕ) (kd : NodeKind) → tree.names_file f (node_kind kd file) ≡ true → (is_kind_directory kd || names_back kd m (head_at t.files file)) ≡ true → (m ≡ 0 → ⊥) → gone (head.alias == 0) m ≡ true
  by_kind m file Directory e back some = absurd cc
  by_kind m file System e back some =
      let at : head_at t.files file ≡ Some head = ap (head_at t.files) (eqb-true file f e) ∙ there in
      let same : (head.system == m) ≡ true = ap (names_back System m) (sym at) ∙ back in
      rw (is_at_same head.system m (eqb-true head.system m same)) refl
  by_kind m file Alias e back some =
      let at : head_at t.files file ≡ Some head = ap (head_at t.files) (eqb-true file f e) ∙ there in
      let same = eqb-true head.alias m (ap (names_back Alias m) (sym at) ∙ back) in
      let alias : (head.alias == 0) ≡ false = ne_eqb head.alias 0 (λ z. some (sym same ∙ z)) in
      rw (alias, is_at_same head.alias m same) (or_true (is_at (nat_cmp head.system) m))

  is_gone : (m : ℕ) → is_name_of f (node_at t.nodes m) ≡ true → gone (head.alias == 0) m ≡ true
  is_gone m e = by (node_at t.nodes m) refl e where
    by : (o : Option Node) → node_at t.nodes m ≡ o → is_name_of f o ≡ true → gone (head.alias == 0) m ≡ true
    by None at e = absurd cc
    by (Some x) at e = by_kind m x.file x.kind e (found_passes (rules.is_named_back t) t.nodes m x k.nodes at) (λ z. none-some x (sym (ap (node_at t.nodes) z ∙ no_root t.nodes k.tables.nodes) ∙ at))

  named : (kd : NodeKind) (n : ℕ) → rules.names_file_in_tables t f kd n ≡ true → (n ≡ 0 → ⊥) → is_kind_directory kd ≡ false → is_name_of f (node_at t.nodes n) ≡ true
  named kd n e some d = by (node_at t.nodes n) (rw (ne_eqb n 0 some) at e) where
    by : (o : Option Node) → is_named_as kd f o ≡ true → is_name_of f o ≡ true
    by None e = absurd cc
    by (Some x) e = let p = and_parts (kind_eq x.kind kd) (x.file == f) e in is_name_kind f x.file x.kind kd p.0 d p.1

  is_named : (m : ℕ) → gone (head.alias == 0) m ≡ true → is_name_of f (node_at t.nodes m) ≡ true
  is_named m e = by (is_at (nat_cmp head.system) m) refl (head.alias == 0) refl e where
    names : (rules.names_file_in_tables t f System head.system ≡ true) × (rules.names_file_in_tables t f Alias head.alias ≡ true)
    names = and_parts (rules.names_file_in_tables t f System head.system) (rules.names_file_in_tables t f Alias head.alias) (found_passes (rules.has_names t) t.files f head k.names there)

    at_node : (n : ℕ) → n ≡ m → is_name_of f (node_at t.nodes n) ≡ true → is_name_of f (node_at t.nodes m) ≡ true
    at_node n same h = subst (λ (i : ℕ). is_name_of f (node_at t.nodes i) ≡ true) same h

    by : (a : Bool) → is_at (nat_cmp head.system) m ≡ a → (b : Bool) → (head.alias == 0) ≡ b → (a || (not b && is_at (nat_cmp head.alias) m)) ≡ true → is_name_of f (node_at t.nodes m) ≡ true
    by true here b is e = at_node head.system (number_is head.system m here) (named System head.system names.0 (λ z. omega (arith, z, (head_is t f head k.tables there).system)) refl)
    by false other true is e = absurd cc
    by false other false is e = at_node head.alias (number_is head.alias m e) (named Alias head.alias names.1 (eqb-false head.alias 0 is) refl)

  same_gone : (m : ℕ) → is_name_of f (node_at t.nodes m) ≡ gone (head.alias == 0) m
  same_gone m = same_bool (is_name_of f (node_at t.nodes m)) (gone (head.alias == 0) m) (is_gone m) (is_named m)

  names_gone : NamesGone t.nodes (without_names t.nodes head) f
  names_gone = record {
    stay = λ m e. at_small m ∙ rw (sym (same_gone m) ∙ e) refl;
    left = λ m e. at_small m ∙ rw (sym (same_gone m) ∙ e) refl;
    leaves = λ m x at. parent x m at (node_at t.nodes x.parent) refl;
  }
    where
      parent : (x : Node) (m : ℕ) → node_at t.nodes m ≡ Some x → (o : Option Node) → node_at t.nodes x.parent ≡ o → is_name_of f (node_at t.nodes x.parent) ≡ false
      parent x m at None e = ap (is_name_of f) e
      parent x m at (Some y) e = ap (is_name_of f) e ∙ no_name f y.file y.kind (k.tables.nodes.rule.parents m x y at e)

  file_gone : (cells : ℕ → List Cell) → files_by_number cells (without_head t.files f) ≡ maps.remove (files_by_number cells t.files) f
  file_gone cells = same_files (files_by_number cells (without_head t.files f)) (maps.remove (files_by_number cells t.files) f) (λ q.
      files_are cells (without_head t.files f) q ∙ ap (files.file_at cells q) (gone_at f q t.files k.tables.files.0)
      ∙ by q (either (is_at (nat_cmp f) q))
      ∙ sym (maps.get-remove nat_cmp_total (files_by_number cells t.files) f q))
    where
      by : (q : ℕ) → (is_at (nat_cmp f) q ≡ true) ⊎ (is_at (nat_cmp f) q ≡ false)
          → files.file_at cells q (cond (is_at (nat_cmp f) q) None (head_at t.files q)) ≡ cond (eq_by_cmp nat_cmp q f) None (maps.get (files_by_number cells t.files) q)
      by q (inl here) =
          let back : eq_by_cmp nat_cmp q f ≡ true = is_at_same q f (sym (number_is f q here)) in
          rw (here, back) refl
      by q (inr other) =
          let apart : q ≡ f → ⊥ = λ e. clash (is_at (nat_cmp f) q) (is_at_same f q (sym e)) other in
          let back : eq_by_cmp nat_cmp q f ≡ false = number_other q f apart in
          rw (other, back) (sym (files_are cells t.files q))
        where
          clash : (b : Bool) → b ≡ true → b ≡ false → ⊥
          clash true e g = absurd cc
          clash false e g = absurd cc

pub removal_is_worlds : RemovalIsWorlds
unfolding group_of
removal_is_worlds name s t f head cells k there after =
    let names = unnamed_tree t.nodes (without_names t.nodes head) f k.tables.nodes after.tables.nodes (names_gone s t f head k there) in
    let file = file_gone s t f head k there cells in
    λ i. record (group_of name s t cells) { tree = names i; files = file i }

pub removal_keeps_cells : RemovalKeepsCells
removal_keeps_cells s t f head cells k has q h e = by (is_at (nat_cmp f) q) (sym (gone_at f q t.files k.tables.files.0) ∙ e) where
  by : (b : Bool) → cond b None (head_at t.files q) ≡ Some h → length (cells q) ≡ h.size
  by true e = absurd (none-some h e)
  by false e = has q h e
