-- What ls tells of a group: by the nodes of its tables, and by the entries of the world's tree.
use Rattle.std.proofs.Common.{◌≡◌, inl, inr, ℕ, ◌<◌, Bool, true, false, cond, List, [], ◌∷◌, ◌++◌, length, map, Option, Some, None, refl, sym, ap, subst, ◌∙◌, arith}
use Rattle.std.specs.Prelude.{◌||◌, ◌==◌, IsSomeAnd, MatchBool, Ok, Err, filter, filter_map}
use Rattle.std.specs.FinMap as maps
use Rattle.std.specs.FinMap.Entries.{below_all, is_sorted-where_key}
use Rattle.std.specs.List.{AllByRecursion, cons_option, list_any}
use Rattle.std.specs.List.Sorted.{IsStrictlySortedBy}
use Rattle.std.specs.Cmp.{Equal-is}
use Rattle.std.specs.Cmp.Lexicographic.{nat_list_cmp_total}
use Rattle.std.specs.Option.{option_and_then, option_map, option_to_list}
use Rattle.std.specs.Ordering.{is_lt, ordering_then}
use Rattle.std.specs.Str.{bytes_eq}
use Rattle.std.specs.declared.cmp.Ordering.{Ordering}
use Rattle.std.specs.declared.cmp.Ordering.TheVariants.{Less, Equal}
use Rattle.std.proofs.lemmas.Bool.{and_from, and_parts, cases_Bool, eq-eqb, eqb-true, false≢true, ne_eqb, true≢false}
use Rattle.std.proofs.lemmas.Cmp.{eq_by_cmp_equiv}
use Rattle.std.proofs.lemmas.Option.{none-some, same_Some}
use Rattle.std.proofs.lemmas.Slice.Eq.{bytes_eq-Decides}
use Rattle.asm_formats.specs.Among.{IsAmong}
use Rattle.asm_formats.specs.Items.{FileHead, Node}
use Rattle.asm_formats.specs.Nodes.{entry_of_node, node_kind}
use Rattle.asm_group.specs.declared.NodeKind.{NodeKind}
use Rattle.asm_group.specs.declared.NodeKind.TheVariants.{Directory, System, Alias}
use Rattle.asm_group.specs.Group.{Cell, Dir, Group, TreeEntry}
use Rattle.asm_group.specs.Group as group
use Rattle.asm_group.specs.Names.{Bytes, Path, folded, folded_path}
use Rattle.asm_group.specs.Shape.{Shape}
use Rattle.asm_group.specs.TreeEdits.{is_dir_entry, is_root, last_part, up}
use Rattle.asm_placement.specs.Naming.{is_kind_directory, is_named_as, kind_eq, names_back}
use Rattle.refusal_lines.specs.declared.refusal.Refusal.TheVariants as cause
use Rattle.asm_world.specs.Edits as edits
use Rattle.asm_world.specs.Listings as world
use Rattle.asm_world.specs.Listings.{first_or_none, has_star, is_child, is_match, is_system_name_of}
use Rattle.asm_world.specs.Paths as paths
use Rattle.asm_world.specs.Reports.{Listed}
use Rattle.asm_world.specs.Reports as reports
use Rattle.asmcmd.specs.Texts.{listed_row}
use Rattle.asmcmd.specs.declared.rows.LsRow.{LsRow}
use Rattle.alias_tree.specs.Nodes.{AreByName, IsNodeTable, Numbered, folded_in, folded_name, has_parent, is_under_parent, node_at, number_of}
use Rattle.alias_tree.specs.Spelling.{names_to}
use Rattle.alias_tree.specs.Trees.{number_by, tree_of}
use Rattle.alias_tree.proofs.Ways.{by_last, child_at, child_found, paths_total, way, way_is, way_leads}
use Rattle.file_directory.specs.Files.{head_at}
use Rattle.catalog_tables.specs.Rules as rules
use Rattle.catalog_tables.specs.Rules.{KeepsRules}
use Rattle.catalog_tables.specs.Tables.{Tables}
use Rattle.group_of.proofs.catalog.NumberedEntries.{found_passes, passes_each}
use Rattle.group_of.specs.Groups.{files_by_number, group_of}
use Rattle.group_of.proofs.HeadedFiles.{file_at, files_are, head_among, head_is}
use Rattle.group_reports.specs.Listing.{AreRowsAt, AreRowsIn, AreRowsOf, AreRowsUnder, listing_of_node, listed_as, node_row, path_to, row_at, rows_of_nodes, star, path_text_if_any}
use Rattle.group_reports.specs.Places.{directory_in, is_directory_at, node_named, path_of_parts}
use Rattle.report_laws.specs.Lists.{RowsAreWorlds}
use Rattle.report_laws.proofs.Directories.{entry_of, filled, is_dir, no_entry}
use Rattle.report_laws.proofs.Finds.{Entries, P, entry_node, entry_there, filtered_from, filtered_to, mapped_from, mapped_to, paths_same, world_text}
use Rattle.report_laws.proofs.InOrder.{star_matches}
use Rattle.report_laws.proofs.Named.{made_of_parts, named_is, star_free}
use Rattle.report_laws.proofs.Ordered.{R}
use Rattle.report_laws.proofs.Sorted.{same_members, t_true}
use Rattle.report_laws.proofs.Spelling.{entry_by, to_folded}

-- ---- numbers among others

or_true : (b : Bool) → (b || true) ≡ true
or_true true = refl
or_true false = refl

any_among : (n : ℕ) (ns : List ℕ) → list_any (λ m. m == n) ns ≡ true → IsAmong ns n
any_among n [] e = absurd (false≢true e)
any_among n (m ∷ ns) e = elim (cases_Bool (m == n)) [
  | inl hit ↦ inl (sym (eqb-true m n hit))
  | inr miss ↦ inr (any_among n ns (rw miss at e))
]

among_any : (n : ℕ) (ns : List ℕ) → IsAmong ns n → list_any (λ m. m == n) ns ≡ true
among_any n [] e = absurd e
among_any n (m ∷ ns) e = elim e [
  | inl here ↦ ap (λ (b : Bool). b || list_any (λ k. k == n) ns) (eq-eqb m n (sym here))
  | inr later ↦ ap (λ (b : Bool). (m == n) || b) (among_any n ns later) ∙ or_true (m == n)
]

-- ---- entries that stay

abbrev kept : (Path → Bool) → Entries → Entries
kept p es = filter (λ (e : Path × TreeEntry). p e.0) es

kept_from : (p : Path → Bool) (es : Entries) (x : Path × TreeEntry) → IsAmong (kept p es) x → IsAmong es x × (p x.0 ≡ true)
kept_from p [] x m = absurd m
kept_from p (y ∷ es) x m = by (p y.0) refl m (kept_from p es x) where
  by : (b : Bool) → p y.0 ≡ b → IsAmong (cond b (y ∷ kept p es) (kept p es)) x → (IsAmong (kept p es) x → IsAmong es x × (p x.0 ≡ true)) → IsAmong (y ∷ es) x × (p x.0 ≡ true)
  by true is n more = elim n [
    | inl here ↦ (inl here, ap (λ (e : Path × TreeEntry). p e.0) here ∙ is)
    | inr later ↦ let k = more later in (inr k.0, k.1)
  ]
  by false is n more = let k = more n in (inr k.0, k.1)

kept_more : (p : Path → Bool) (es : Entries) (y x : Path × TreeEntry) (b : Bool) → IsAmong (kept p es) x → IsAmong (cond b (y ∷ kept p es) (kept p es)) x
kept_more p es y x true m = inr m
kept_more p es y x false m = m

kept_to : (p : Path → Bool) (es : Entries) (x : Path × TreeEntry) → IsAmong es x → p x.0 ≡ true → IsAmong (kept p es) x
kept_to p [] x m is = absurd m
kept_to p (y ∷ es) x m is = elim m [
  | inl here ↦
      let at : p y.0 ≡ true = ap (λ (e : Path × TreeEntry). p e.0) (sym here) ∙ is in
      subst (λ (b : Bool). IsAmong (cond b (y ∷ kept p es) (kept p es)) x) (sym at) (inl here)
  | inr later ↦ kept_more p es y x (p y.0) (kept_to p es x later is)
]

children_kept : (p : Path → Bool) (es : Entries) → filter_map (λ (e : Path × TreeEntry). cond (p e.0) (Some e.1) None) es ≡ map (λ (e : Path × TreeEntry). e.1) (kept p es)
children_kept p [] = refl
children_kept p (y ∷ es) = by (p y.0) (children_kept p es) where
  by : (b : Bool) → filter_map (λ (e : Path × TreeEntry). cond (p e.0) (Some e.1) None) es ≡ map (λ (e : Path × TreeEntry). e.1) (kept p es)
      → cons_option (cond b (Some y.1) None) (filter_map (λ (e : Path × TreeEntry). cond (p e.0) (Some e.1) None) es) ≡ map (λ (e : Path × TreeEntry). e.1) (cond b (y ∷ kept p es) (kept p es))
  by true more = ap (λ (l : List TreeEntry). y.1 ∷ l) more
  by false more = more

-- ---- paths just below a directory

child_shape : (dir q : Path) → is_child dir q ≡ true → (y : Bytes) × (q ≡ dir ++ y ∷ [])
child_shape [] [] e = absurd (false≢true e)
child_shape [] (part ∷ []) e = (part, refl)
child_shape [] (part ∷ next ∷ q) e = absurd (false≢true e)
child_shape (d ∷ dir) [] e = absurd (false≢true e)
child_shape (d ∷ dir) (part ∷ q) e =
    let p = and_parts (bytes_eq d part) (is_child dir q) e in
    let same : d ≡ part = (bytes_eq-Decides d part).0 p.0 in
    let rest = child_shape dir q p.1 in
    (rest.0, λ i. sym same i ∷ rest.1 i)

child_is : (dir : Path) (y : Bytes) → is_child dir (dir ++ y ∷ []) ≡ true
child_is [] y = refl
child_is (d ∷ dir) y = and_from (bytes_eq d d) (is_child dir (dir ++ y ∷ [])) ((bytes_eq-Decides d d).1 refl) (child_is dir y)

less_last : (dir : Path) (a b : Bytes) → R a b ≡ Less → P (dir ++ a ∷ []) (dir ++ b ∷ []) ≡ Less
less_last [] a b less = ap (λ (o : Ordering). ordering_then o Equal) less
less_last (d ∷ dir) a b less =
    let itself : R d d ≡ Equal = (Equal-is (R d d)).0 ((eq_by_cmp_equiv nat_list_cmp_total).refl d) in
    ap (λ (o : Ordering). ordering_then o (P (dir ++ a ∷ []) (dir ++ b ∷ []))) itself ∙ less_last dir a b less

-- ---- texts of which all are one

first_is : (l : List Bytes) (x : Bytes) → IsAmong l x → ((y : Bytes) → IsAmong l y → y ≡ x) → first_or_none l ≡ x
first_is [] x m one = absurd m
first_is (y ∷ l) x m one = one y (inl refl)

-- ---- kinds

system_named : (kind : NodeKind) (file f : ℕ) → kind_eq kind System ≡ true → (file == f) ≡ true → is_system_name_of f (node_kind kind file) ≡ true
system_named Directory file f kind same = absurd (false≢true kind)
system_named System file f kind same = same
system_named Alias file f kind same = absurd (false≢true kind)

-- ---- tests by star

star_takes_all : (es : List TreeEntry) → world.matching star es ≡ es
star_takes_all [] = refl
star_takes_all (e ∷ es) =
    ap (λ (b : Bool). cons_option (cond b (Some e) None) (world.matching star es)) (star_matches e.name) ∙ ap (λ (l : List TreeEntry). e ∷ l) (star_takes_all es)

mapped_option : {A B : Type 0} (f : A → B) (o : Option A) (l : List A) → cons_option (option_map f o) (map f l) ≡ map f (cons_option o l)
mapped_option f None l = refl
mapped_option f (Some x) l = refl

one_option : {A B : Type 0} (f : A → B) (o : Option A) → option_to_list (option_map f o) ≡ map f (cons_option o [])
one_option f None = refl
one_option f (Some x) = refl

-- what a node is in the tree; something where there is none
abbrev entry_in : Option Node → TreeEntry
entry_in None = record { name = []; node = Dir }
entry_in (Some node) = entry_of_node node

below_root : (path : Path) → has_star (last_part path) ≡ true → is_root path ≡ false
below_root [] starred = absurd (false≢true starred)
below_root (part ∷ path) starred = filled part path

-- ---- a group of tables

module _ (name : Bytes) (s : Shape) (t : Tables) (cells : ℕ → List Cell) (keeps : KeepsRules s t) where
  abbrev nodes : List Numbered
  nodes = t.nodes

  table : IsNodeTable nodes
  table = keeps.tables.nodes

  abbrev g : Group
  g = group_of name s t cells

  tree_is : g.tree ≡ tree_of nodes
  unfolding group_of
  tree_is = refl

  files_is : g.files ≡ files_by_number cells t.files
  unfolding group_of
  files_is = refl

  -- ---- one name

  abbrev system_path : ℕ → Path × TreeEntry → Option Bytes
  system_path f e = cond (is_system_name_of f e.1.node) (Some (paths.path_text (edits.spelt g e.0))) None

  system_text : (n : ℕ) (node : Node) → node_at nodes n ≡ Some node → paths.path_text (edits.spelt g (way nodes n)) ≡ path_to t name n
  system_text n node at =
      world_text name s t cells [] [] keeps n node at
      ∙ sym (ap (λ (o : Option Node). path_text_if_any (option_map (λ (m : Node). path_of_parts name (names_to nodes (length nodes) n)) o)) at)

  back_is : (kind : NodeKind) (file f n : ℕ) (head : FileHead) → is_system_name_of f (node_kind kind file) ≡ true → head_at t.files f ≡ Some head
      → (is_kind_directory kind || names_back kind n (head_at t.files file)) ≡ true → head.system ≡ n
  back_is Directory file f n head named e passes = absurd (false≢true named)
  back_is System file f n head named e passes =
      let same : file ≡ f = eqb-true file f named in
      eqb-true head.system n (sym (ap (λ (o : Option FileHead). names_back System n o) (ap (head_at t.files) same ∙ e)) ∙ passes)
  back_is Alias file f n head named e passes = absurd (false≢true named)

  -- a file of the tables has one system path
  target_is : (f : ℕ) (head : FileHead) → head_at t.files f ≡ Some head → first_or_none (world.system_paths g f) ≡ path_to t name head.system
  target_is f head e = by (node_at nodes head.system) refl where
    some : 0 < head.system
    some = (head_is t f head keeps.tables e).system

    named : is_named_as System f (node_at nodes head.system) ≡ true
    named =
        let both = and_parts (rules.names_file_in_tables t f System head.system) (rules.names_file_in_tables t f Alias head.alias) (passes_each (rules.has_names t) t.files keeps.names (f, head) (head_among t.files f head e)) in
        let other : (head.system == 0) ≡ false = ne_eqb head.system 0 (λ z. absurd (omega (arith, some, z))) in
        sym (ap (λ (b : Bool). b || is_named_as System f (node_at nodes head.system)) other) ∙ both.0

    only : (y : Bytes) → IsAmong (world.system_paths g f) y → y ≡ path_to t name head.system
    only y m =
        let a = filtered_from (system_path f) (maps.entries g.tree) y m in
        let of = entry_node name s t cells [] [] keeps a.0 a.1 in
        let shown : (is_system_name_of f a.0.1.node ≡ true) × (y ≡ paths.path_text (edits.spelt g a.0.0)) = told a.0 (is_system_name_of f a.0.1.node) refl a.2 in
        let is_system : is_system_name_of f (node_kind of.node.kind of.node.file) ≡ true = ap (λ (x : TreeEntry). is_system_name_of f x.node) (sym of.is) ∙ shown.0 in
        let passes : rules.is_named_back t (of.n, of.node) ≡ true = found_passes (rules.is_named_back t) nodes of.n of.node keeps.nodes of.at in
        let number : head.system ≡ of.n = back_is of.node.kind of.node.file f of.n head is_system e passes in
        shown.1 ∙ (ap (λ (k : Path). paths.path_text (edits.spelt g k)) of.key ∙ (system_text of.n of.node of.at ∙ ap (path_to t name) (sym number)))
      where
        told : (x : Path × TreeEntry) (b : Bool) → is_system_name_of f x.1.node ≡ b → cond b (Some (paths.path_text (edits.spelt g x.0))) None ≡ Some y
            → (is_system_name_of f x.1.node ≡ true) × (y ≡ paths.path_text (edits.spelt g x.0))
        told x true is some = (is, sym (same_Some (paths.path_text (edits.spelt g x.0)) y some))
        told x false is some = absurd (none-some y some)

    by : (o : Option Node) → node_at nodes head.system ≡ o → first_or_none (world.system_paths g f) ≡ path_to t name head.system
    by None at = absurd (false≢true (sym (ap (is_named_as System f) at) ∙ named))
    by (Some node) at =
        let parts = and_parts (kind_eq node.kind System) (node.file == f) (sym (ap (is_named_as System f) at) ∙ named) in
        let is_system : is_system_name_of f (node_kind node.kind node.file) ≡ true = system_named node.kind node.file f parts.0 parts.1 in
        let shown : system_path f (way nodes head.system, entry_of_node node) ≡ Some (path_to t name head.system) =
        ap (λ (b : Bool). cond b (Some (paths.path_text (edits.spelt g (way nodes head.system)))) None) is_system ∙ ap (λ (y : Bytes). Some y) (system_text head.system node at) in
        first_is (world.system_paths g f) (path_to t name head.system)
        (filtered_to (system_path f) (maps.entries g.tree) (way nodes head.system, entry_of_node node) (path_to t name head.system) (entry_there name s t cells [] [] keeps head.system node at) shown)
        only

  got : (f : ℕ) → maps.get g.files f ≡ file_at cells f (head_at t.files f)
  got f = ap (λ m. maps.get m f) files_is ∙ files_are cells t.files f

  abbrev as_system : Bytes → group.File → Listed
  as_system part f = reports.ListedSystemName f.type_name f.copies f.stripe part

  abbrev as_alias : Bytes → Bytes → group.File → Listed
  as_alias part target f = reports.AliasName f.type_name f.copies f.stripe part target

  listed_by : (kind : NodeKind) (file : ℕ) (part : Bytes) → world.listing_of_entry g (record { name = part; node = node_kind kind file }) ≡ listed_as t name part kind (head_at t.files file)
  listed_by Directory file part = refl
  listed_by System file part = ap (λ (o : Option group.File). option_map (as_system part) o) (got file) ∙ by (head_at t.files file) where
    by : (o : Option FileHead) → option_map (as_system part) (file_at cells file o) ≡ listed_as t name part System o
    by None = refl
    by (Some head) = refl
  listed_by Alias file part = ap (λ (o : Option group.File). option_map (as_alias part (first_or_none (world.system_paths g file))) o) (got file) ∙ by (head_at t.files file) refl where
    by : (o : Option FileHead) → head_at t.files file ≡ o → option_map (as_alias part (first_or_none (world.system_paths g file))) (file_at cells file o) ≡ listed_as t name part Alias o
    by None e = refl
    by (Some head) e = ap (λ (target : Bytes). Some (reports.AliasName head.type_name head.copies head.stripe part target)) (target_is file head e)

  listed_is : (node : Node) → world.listing_of_entry g (entry_of_node node) ≡ listing_of_node t name node
  listed_is node = listed_by node.kind node.file node.name

  -- ---- rows of some names

  abbrev rows_of : Bytes → List TreeEntry → List LsRow
  rows_of pattern es = map listed_row (world.rows_of g (world.matching pattern es))

  row_more : (pattern : Bytes) (node : Node) (rest : List LsRow) (es : List TreeEntry) → rest ≡ rows_of pattern es → cons_option (node_row t name pattern node) rest ≡ rows_of pattern (entry_of_node node ∷ es)
  row_more pattern node rest es is = by (is_match pattern node.name) where
    by : (b : Bool) → cons_option (cond b (option_map listed_row (listing_of_node t name node)) None) rest ≡ map listed_row (world.rows_of g (cons_option (cond b (Some (entry_of_node node)) None) (world.matching pattern es)))
    by true =
        ap (λ (l : List LsRow). cons_option (option_map listed_row (listing_of_node t name node)) l) is
        ∙ (mapped_option listed_row (listing_of_node t name node) (world.rows_of g (world.matching pattern es))
        ∙ ap (λ (o : Option Listed). map listed_row (cons_option o (world.rows_of g (world.matching pattern es)))) (sym (listed_is node)))
    by false = is

  rows_same : (pattern : Bytes) (ns : List ℕ) → ((n : ℕ) → IsAmong ns n → (node : Node) × (node_at nodes n ≡ Some node)) → rows_of_nodes t name pattern ns ≡ rows_of pattern (map (λ n. entry_in (node_at nodes n)) ns)
  rows_same pattern [] all = refl
  rows_same pattern (n ∷ ns) all =
      let here = all n (inl refl) in
      let rest : rows_of_nodes t name pattern ns ≡ rows_of pattern (map (λ m. entry_in (node_at nodes m)) ns) = rows_same pattern ns (λ m k. all m (inr k)) in
      subst (λ (o : Option Node). cons_option (option_and_then (node_row t name pattern) o) (rows_of_nodes t name pattern ns) ≡ rows_of pattern (entry_in o ∷ map (λ m. entry_in (node_at nodes m)) ns)) (sym here.1)
      (row_more pattern here.0 (rows_of_nodes t name pattern ns) (map (λ m. entry_in (node_at nodes m)) ns) rest)

  -- ---- the names in a directory

  module _ (dir : Path) (at : ℕ) (leads : number_of nodes dir ≡ Some at) where
    abbrev key : Path
    key = folded_path dir

    to_dir : number_by nodes 0 key ≡ Some at
    to_dir = to_folded nodes table dir at leads

    under_node : (n : ℕ) → is_under_parent nodes at n ≡ true → (node : Node) × (node_at nodes n ≡ Some node) × (node.parent ≡ at)
    under_node n e = by (node_at nodes n) refl where
      by : (o : Option Node) → node_at nodes n ≡ o → (node : Node) × (node_at nodes n ≡ Some node) × (node.parent ≡ at)
      by None f = absurd (false≢true (sym (ap (has_parent at) f) ∙ e))
      by (Some node) f = (node, f, eqb-true node.parent at (sym (ap (has_parent at) f) ∙ e))

    under_way : (n : ℕ) → is_under_parent nodes at n ≡ true → way nodes n ≡ key ++ folded_name nodes n ∷ []
    under_way n e =
        let u = under_node n e in
        let named : folded_name nodes n ≡ folded u.0.name = ap folded_in u.1 in
        let child = child_at nodes at (folded u.0.name) n table (record { node = u.0; at = u.1; parent_is = u.2; name_is = refl }) in
        way_is nodes (key ++ folded u.0.name ∷ []) n table (by_last nodes key (folded u.0.name) 0 at to_dir ∙ child) ∙ ap (λ (y : Bytes). key ++ y ∷ []) (sym named)

    abbrev row : ℕ → Path × TreeEntry
    row n = (way nodes n, entry_in (node_at nodes n))

    abbrev here : Entries
    here = kept (is_child key) (maps.entries g.tree)

    here_up : maps.is_sorted P here ≡ true
    here_up = t_true (maps.is_sorted P here) (is_sorted-where_key P (is_child key) (maps.entries g.tree) (maps.entries_sorted g.tree))

    below_rows : (m : ℕ) (ns : List ℕ) → is_under_parent nodes at m ≡ true → ((n : ℕ) → IsAmong ns n → is_under_parent nodes at n ≡ true)
        → AllByRecursion (λ (y : Bytes). R (folded_name nodes m) y ≡ Less) (map (folded_name nodes) ns) → below_all P (way nodes m) (map row ns) ≡ true
    below_rows m [] is all less = refl
    below_rows m (n ∷ ns) is all less =
        let order : P (way nodes m) (way nodes n) ≡ Less = (λ i. P (under_way m is i) (under_way n (all n (inl refl)) i)) ∙ less_last key (folded_name nodes m) (folded_name nodes n) less.0 in
        and_from (is_lt (P (way nodes m) (way nodes n))) (below_all P (way nodes m) (map row ns)) (ap is_lt order) (below_rows m ns is (λ k j. all k (inr j)) less.1)

    rows_up : (ns : List ℕ) → ((n : ℕ) → IsAmong ns n → is_under_parent nodes at n ≡ true) → AreByName nodes ns → maps.is_sorted P (map row ns) ≡ true
    unfolding IsStrictlySortedBy
    rows_up [] all order = refl
    rows_up (m ∷ ns) all order =
        and_from (below_all P (way nodes m) (map row ns)) (maps.is_sorted P (map row ns)) (below_rows m ns (all m (inl refl)) (λ k j. all k (inr j)) order.0) (rows_up ns (λ k j. all k (inr j)) order.1)

    entries_mapped : (ns : List ℕ) → map (λ (e : Path × TreeEntry). e.1) (map row ns) ≡ map (λ n. entry_in (node_at nodes n)) ns
    entries_mapped [] = refl
    entries_mapped (n ∷ ns) = ap (λ (l : List TreeEntry). entry_in (node_at nodes n) ∷ l) (entries_mapped ns)

    module _ (numbers : List ℕ) (each : (n : ℕ) → list_any (λ m. m == n) numbers ≡ is_under_parent nodes at n) (order : AreByName nodes numbers) where
      all_under : (n : ℕ) → IsAmong numbers n → is_under_parent nodes at n ≡ true
      all_under n m = sym (each n) ∙ among_any n numbers m

      to_rows : (x : Path × TreeEntry) → IsAmong here x → IsAmong (map row numbers) x
      to_rows x m =
          let k = kept_from (is_child key) (maps.entries g.tree) x m in
          let of = entry_node name s t cells [] [] keeps x k.0 in
          let shape = child_shape key x.0 k.1 in
          let number : number_by nodes 0 (key ++ shape.0 ∷ []) ≡ Some of.n = ap (λ (p : Path). number_by nodes 0 p) (sym shape.1 ∙ of.key) ∙ way_leads nodes of.n of.node table of.at in
          let c = child_found nodes at shape.0 of.n table (sym (by_last nodes key shape.0 0 at to_dir) ∙ number) in
          let under : is_under_parent nodes at of.n ≡ true = ap (has_parent at) c.at ∙ eq-eqb c.node.parent at c.parent_is in
          let is : x ≡ row of.n = (λ i. (of.key i, (of.is ∙ sym (ap entry_in of.at)) i)) in
          subst (λ (y : Path × TreeEntry). IsAmong (map row numbers) y) (sym is) (mapped_to row numbers of.n (any_among of.n numbers (each of.n ∙ under)))

      from_rows : (x : Path × TreeEntry) → IsAmong (map row numbers) x → IsAmong here x
      from_rows x m =
          let a = mapped_from row numbers x m in
          let under = all_under a.0 a.1 in
          let u = under_node a.0 under in
          let there : IsAmong (maps.entries g.tree) (way nodes a.0, entry_of_node u.0) = entry_there name s t cells [] [] keeps a.0 u.0 u.1 in
          let child : is_child key (way nodes a.0) ≡ true = ap (is_child key) (under_way a.0 under) ∙ child_is key (folded_name nodes a.0) in
          let is : (way nodes a.0, entry_of_node u.0) ≡ x = (λ i. (way nodes a.0, sym (ap entry_in u.1) i)) ∙ sym a.2 in
          subst (λ (y : Path × TreeEntry). IsAmong here y) is (kept_to (is_child key) (maps.entries g.tree) (way nodes a.0, entry_of_node u.0) there child)

      children_are : world.children g dir ≡ map (λ n. entry_in (node_at nodes n)) numbers
      children_are =
          children_kept (is_child key) (maps.entries g.tree)
          ∙ (ap (map (λ (e : Path × TreeEntry). e.1)) (same_members P paths_total paths_same here (map row numbers) here_up (rows_up numbers all_under order) to_rows from_rows)
          ∙ entries_mapped numbers)

    rows_under : (pattern : Bytes) (rows : List LsRow) → AreRowsUnder t name at pattern rows → rows ≡ rows_of pattern (world.children g dir)
    rows_under pattern rows are =
        let all : (n : ℕ) → IsAmong are.numbers n → (node : Node) × (node_at nodes n ≡ Some node) = λ n m. let u = under_node n (all_under are.numbers are.each are.order n m) in (u.0, u.1) in
        are.is ∙ (rows_same pattern are.numbers all ∙ ap (rows_of pattern) (sym (children_are are.numbers are.each are.order)))

  -- ---- at a path

  module _ (parts : Path) (rows : List LsRow) where
    abbrev IsRight : Type 0
    IsRight = rows ≡ map listed_row (world.rows_at g parts)

    abbrev chosen : Bool → Bool → List Listed
    chosen dir starred =
        cond dir (world.rows_of g (world.children g parts))
        (cond starred (world.rows_of g (world.matching (last_part parts) (world.children g (up parts)))) (world.rows_of g (world.one_entry (edits.group_entry_at g parts))))

    -- a path to a pattern leads nowhere
    no_dir : has_star (last_part parts) ≡ true → edits.group_has_dir g parts ≡ false
    no_dir starred = by (number_of nodes parts) refl where
      by : (o : Option ℕ) → number_of nodes parts ≡ o → edits.group_has_dir g parts ≡ false
      by (Some n) e = absurd (true≢false (sym starred ∙ star_free parts (made_of_parts nodes table parts n e)))
      by None e = λ i. below_root parts starred i || is_dir_entry (no_entry nodes table g tree_is parts e i)

    by_pattern : has_star (last_part parts) ≡ true → (o : Option ℕ) → number_of nodes (up parts) ≡ o → AreRowsIn t name (last_part parts) (directory_in t o) rows → IsRight
    by_pattern starred None e are = absurd are
    by_pattern starred (Some at) e are = by (is_directory_at t at) are where
      by : (b : Bool) → AreRowsIn t name (last_part parts) (cond b (Ok at) (Err cause.NotDirectory)) rows → IsRight
      by false none = absurd none
      by true under =
          rows_under (up parts) at e (last_part parts) rows under
          ∙ sym (ap (map listed_row) ((λ i. chosen (no_dir starred i) (starred i))))

    by_name : has_star (last_part parts) ≡ false → (o : Option ℕ) → number_of nodes parts ≡ o → IsSomeAnd o (λ n. AreRowsOf t name n rows) → IsRight
    by_name plain None e are = absurd are
    by_name plain (Some n) e are = by (is_directory_at t n) refl are where
      dir_is : edits.group_has_dir g parts ≡ is_directory_at t n
      dir_is = is_dir nodes table g tree_is parts n e

      one : (o : Option Node) → node_at nodes n ≡ o → option_to_list (row_at t name star n) ≡ map listed_row (world.rows_of g (world.one_entry (edits.group_entry_at g parts)))
      one None f =
          let none : edits.group_entry_at g parts ≡ None =
          entry_by nodes table g tree_is parts ∙ ap (λ (q : Option ℕ). option_map entry_of_node (option_and_then (λ m. node_at nodes m) q)) e ∙ ap (option_map entry_of_node) f in
          ap (λ (q : Option Node). option_to_list (option_and_then (node_row t name star) q)) f ∙ sym (ap (λ (q : Option TreeEntry). map listed_row (world.rows_of g (world.one_entry q))) none)
      one (Some node) f =
          ap (λ (q : Option Node). option_to_list (option_and_then (node_row t name star) q)) f
          ∙ (ap (λ (b : Bool). option_to_list (cond b (option_map listed_row (listing_of_node t name node)) None)) (star_matches node.name)
          ∙ (one_option listed_row (listing_of_node t name node)
          ∙ (ap (λ (q : Option Listed). map listed_row (cons_option q [])) (sym (listed_is node))
          ∙ sym (ap (λ (q : Option TreeEntry). map listed_row (world.rows_of g (world.one_entry q))) (entry_of nodes table g tree_is parts n node e f)))))

      by : (b : Bool) → is_directory_at t n ≡ b → MatchBool b (AreRowsUnder t name n star rows) (rows ≡ option_to_list (row_at t name star n)) → IsRight
      by true is under =
          rows_under parts n e star rows under
          ∙ (ap (λ (es : List TreeEntry). map listed_row (world.rows_of g es)) (star_takes_all (world.children g parts))
          ∙ sym (ap (λ (d : Bool). map listed_row (chosen d (has_star (last_part parts)))) (dir_is ∙ is)))
      by false is own =
          own ∙ (one (node_at nodes n) refl ∙ sym (ap (map listed_row) ((λ i. chosen ((dir_is ∙ is) i) (plain i)))))

    are_right : AreRowsAt t name parts rows → IsRight
    are_right are = by (has_star (last_part parts)) refl are where
      by : (b : Bool) → has_star (last_part parts) ≡ b
          → MatchBool b (AreRowsIn t name (last_part parts) (directory_in t (node_named t (up parts))) rows) (IsSomeAnd (node_named t parts) (λ n. AreRowsOf t name n rows)) → IsRight
      by true starred are = by_pattern starred (number_of nodes (up parts)) refl (subst (λ (o : Option ℕ). AreRowsIn t name (last_part parts) (directory_in t o) rows) (named_is t table (up parts)) are)
      by false plain are = by_name plain (number_of nodes parts) refl (subst (λ (o : Option ℕ). IsSomeAnd o (λ n. AreRowsOf t name n rows)) (named_is t table parts) are)

pub rows_are_worlds : RowsAreWorlds
rows_are_worlds name s t cells parts rows keeps are = are_right name s t cells keeps parts rows are
