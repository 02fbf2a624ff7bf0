-- What find tells: by the files' names in the tables, and by the entries of the world's tree.
use Rattle.std.proofs.Common.{◌≡◌, ◌⊎◌, ⊎_elim, ℕ, ◌+◌, ◌<◌, Bool, true, false, List, [], ◌∷◌, ◌++◌, length, map, inl, inr, Option, Some, None, refl, sym, ap, subst, ◌∙◌, arith, flat_map}
use Rattle.std.specs.Prelude.{◌&&◌, ◌==◌, nat_le, filter_map}
use Rattle.std.specs.Int.{is_in_range}
use Rattle.std.specs.FinMap as maps
use Rattle.std.specs.Option.{option_and_then, option_map, option_to_list}
use Rattle.std.specs.Ordering.{nat_cmp}
use Rattle.std.specs.declared.cmp.Ordering.{Ordering}
use Rattle.std.specs.Cmp.Lexicographic.{slice_cmp}
use Rattle.std.proofs.lemmas.Bool.{and_parts, cases_Bool, cond-false, cond-true, eqb-true, false≢true, true≢false, leb-true, lt-leb}
use Rattle.std.proofs.lemmas.Option.{none-some, same_Some}
use Rattle.asm_formats.specs.Among.{IsAmong}
use Rattle.asm_formats.specs.Items.{FileHead, Node}
use Rattle.asm_formats.specs.Nodes.{entry_of_node, node_kind}
use Rattle.asm_group.specs.declared.NodeKind.{NodeKind}
use Rattle.asm_group.specs.declared.NodeKind.TheVariants.{Directory, System, Alias}
use Rattle.asm_group.specs.Group.{Cell, Group, TreeEntry}
use Rattle.asm_group.specs.Names.{Bytes, Path, folded, folded_byte, folded_path}
use Rattle.asm_group.specs.Shape.{Shape}
use Rattle.asm_group.specs.TreeEdits.{Tree, is_under}
use Rattle.asm_placement.specs.Naming.{is_kind_directory, is_named_as, kind_eq, names_back}
use Rattle.asm_base.specs.Names as base
use Rattle.asm_base.specs.declared.path.Path as code
use Rattle.asm_base.proofs.Exact.{some_is}
use Rattle.asm_world.specs.Edits as edits
use Rattle.asm_world.specs.Listings as world
use Rattle.asm_world.specs.Listings.{found_path, is_dir_of, is_match}
use Rattle.asm_world.specs.Paths as texts
use Rattle.asmcmd.specs.Texts.{path_line}
use Rattle.alias_tree.specs.Nodes.{IsNodeTable, Numbered, node_at, number_of}
use Rattle.alias_tree.specs.Spelling.{names_to}
use Rattle.alias_tree.specs.Trees.{node_by, number_by, tree_of}
use Rattle.alias_tree.proofs.Spelled.{leads_there}
use Rattle.alias_tree.proofs.Ways.{no_root, paths_total, tree_has, way, way_is, way_leads}
use Rattle.file_directory.specs.Files.{NumberedFile, head_at}
use Rattle.catalog_tables.specs.Rules as rules
use Rattle.catalog_tables.specs.Rules.{KeepsRules}
use Rattle.catalog_tables.specs.Tables.{Tables}
use Rattle.group_of.proofs.catalog.NumberedEntries.{found_passes, passes_each}
use Rattle.group_of.specs.Groups.{group_of}
use Rattle.group_of.proofs.HeadedFiles.{head_among}
use Rattle.group_reports.specs.Files.{matching_node_path, found_of_file, found_of_files, paths_found}
use Rattle.group_reports.specs.Places.{path_of_parts}
use Rattle.report_laws.specs.Finds.{FoundAreWorlds}
use Rattle.report_laws.proofs.Ordered.{AreApart, order_is, same_texts}
use Rattle.report_laws.proofs.PathTexts.{names_are_parts, parts_told, same_text}
use Rattle.report_laws.proofs.Sorted.{find_among, sorted_find, t_true}
use Rattle.report_laws.proofs.Spelling.{from_folded, spelt_is, to_folded}

-- ---- folded twice

and_none : (b : Bool) → (b && false) ≡ false
and_none true = refl
and_none false = refl

no_capital : (c : ℕ) → 90 < c → is_in_range 65 90 c ≡ false
no_capital c more = rw (lt-leb c 90 more) (and_none (nat_le 65 c))

folded_again : (b : ℕ) → folded_byte (folded_byte b) ≡ folded_byte b
folded_again b = ⊎_elim
    (λ (capital : is_in_range 65 90 b ≡ true).
    let low = leb-true 65 b (and_parts (nat_le 65 b) (nat_le b 90) capital).0 in
    let small : folded_byte b ≡ b + 32 = cond-true (is_in_range 65 90 b) (b + 32) b capital in
    let above : is_in_range 65 90 (b + 32) ≡ false = no_capital (b + 32) (omega (arith, low)) in
    ap folded_byte small ∙ cond-false (is_in_range 65 90 (b + 32)) (b + 32 + 32) (b + 32) above ∙ sym small)
    (λ (other : is_in_range 65 90 b ≡ false). ap folded_byte (cond-false (is_in_range 65 90 b) (b + 32) b other))
    (cases_Bool (is_in_range 65 90 b))

folded_same : (bytes : Bytes) → folded (folded bytes) ≡ folded bytes
folded_same [] = refl
folded_same (b ∷ bytes) = λ i. folded_again b i ∷ folded_same bytes i

path_same : (path : Path) → folded_path (folded_path path) ≡ folded_path path
path_same [] = refl
path_same (part ∷ path) = λ i. folded_same part i ∷ path_same path i

-- ---- members of lists

module _ {B : Type 0} where
  append_from : (a b : List B) (y : B) → IsAmong (a ++ b) y → IsAmong a y ⊎ IsAmong b y
  append_from [] b y m = inr m
  append_from (x ∷ a) b y m = elim m [
    | inl here ↦ inl (inl here)
    | inr later ↦ ⊎_elim (λ front. inl (inr front)) (λ back. inr back) (append_from a b y later)
  ]

  append_front : (a b : List B) (y : B) → IsAmong a y → IsAmong (a ++ b) y
  append_front [] b y m = absurd m
  append_front (x ∷ a) b y m = elim m [ inl here ↦ inl here | inr later ↦ inr (append_front a b y later) ]

  append_back : (a b : List B) (y : B) → IsAmong b y → IsAmong (a ++ b) y
  append_back [] b y m = m
  append_back (x ∷ a) b y m = inr (append_back a b y m)

module _ {A B : Type 0} where
  pub mapped_from : (f : A → B) (xs : List A) (y : B) → IsAmong (map f xs) y → (x : A) × IsAmong xs x × (y ≡ f x)
  mapped_from f [] y m = absurd m
  mapped_from f (x ∷ xs) y m = elim m [
    | inl here ↦ (x, inl refl, here)
    | inr later ↦ let z = mapped_from f xs y later in (z.0, inr z.1, z.2)
  ]

  pub mapped_to : (f : A → B) (xs : List A) (x : A) → IsAmong xs x → IsAmong (map f xs) (f x)
  mapped_to f [] x m = absurd m
  mapped_to f (y ∷ xs) x m = elim m [ inl here ↦ inl (ap f here) | inr later ↦ inr (mapped_to f xs x later) ]

  flat_from : (f : A → List B) (xs : List A) (y : B) → IsAmong (flat_map f xs) y → (x : A) × IsAmong xs x × IsAmong (f x) y
  flat_from f [] y m = absurd m
  flat_from f (x ∷ xs) y m = ⊎_elim
      (λ front. (x, inl refl, front))
      (λ back. let z = flat_from f xs y back in (z.0, inr z.1, z.2))
      (append_from (f x) (flat_map f xs) y m)

  flat_to : (f : A → List B) (xs : List A) (x : A) (y : B) → IsAmong xs x → IsAmong (f x) y → IsAmong (flat_map f xs) y
  flat_to f [] x y m n = absurd m
  flat_to f (z ∷ xs) x y m n = elim m [
    | inl here ↦ append_front (f z) (flat_map f xs) y (subst (λ (w : A). IsAmong (f w) y) here n)
    | inr later ↦ append_back (f z) (flat_map f xs) y (flat_to f xs x y later n)
  ]

  filtered_by : (f : A → Option B) (x : A) (xs : List A) (y : B) (o : Option B) → f x ≡ o → (IsAmong (filter_map f xs) y → (z : A) × IsAmong xs z × (f z ≡ Some y)) → IsAmong (filter_map f (x ∷ xs)) y
      → (z : A) × IsAmong (x ∷ xs) z × (f z ≡ Some y)
  filtered_by f x xs y None e more m = let z = more (rw e at m) in (z.0, inr z.1, z.2)
  filtered_by f x xs y (Some v) e more m = ⊎_elim
      (λ (here : y ≡ v). (x, inl refl, e ∙ ap (λ (w : B). Some w) (sym here)))
      (λ later. let z = more later in (z.0, inr z.1, z.2))
      (rw e at m)

  pub filtered_from : (f : A → Option B) (xs : List A) (y : B) → IsAmong (filter_map f xs) y → (x : A) × IsAmong xs x × (f x ≡ Some y)
  filtered_from f [] y m = absurd m
  filtered_from f (x ∷ xs) y m = filtered_by f x xs y (f x) refl (filtered_from f xs y) m

  filtered_more : (f : A → Option B) (z : A) (xs : List A) (y : B) (o : Option B) → f z ≡ o → IsAmong (filter_map f xs) y → IsAmong (filter_map f (z ∷ xs)) y
  filtered_more f z xs y None e more = rw e more
  filtered_more f z xs y (Some v) e more = rw e (inr more)

  pub filtered_to : (f : A → Option B) (xs : List A) (x : A) (y : B) → IsAmong xs x → f x ≡ Some y → IsAmong (filter_map f xs) y
  filtered_to f [] x y m is = absurd m
  filtered_to f (z ∷ xs) x y m is = elim m [
    | inl here ↦ let at : f z ≡ Some y = ap f (sym here) ∙ is in rw at (inl refl)
    | inr later ↦ filtered_more f z xs y (f z) refl (filtered_to f xs x y later is)
  ]

one_from : {B : Type 0} (o : Option B) (y : B) → IsAmong (option_to_list o) y → o ≡ Some y
one_from None y m = absurd m
one_from (Some v) y m = ⊎_elim (λ (here : y ≡ v). ap (λ w. Some w) (sym here)) (λ none. absurd none) m

one_to : {B : Type 0} (o : Option B) (y : B) → o ≡ Some y → IsAmong (option_to_list o) y
one_to None y e = absurd (none-some y e)
one_to (Some v) y e = inl (sym (same_Some v y e))

-- ---- entries of the tree

abbrev pub Entries : Type 0
Entries = List (Path × TreeEntry)

abbrev pub P : Path → Path → Ordering
P = slice_cmp (slice_cmp nat_cmp)

pub paths_same : maps.IsAntisymmetric P
paths_same = maps.slice_cmp-IsAntisymmetric (maps.slice_cmp-IsAntisymmetric maps.nat_cmp-IsAntisymmetric)

entry_got : (t : Tree) (x : Path × TreeEntry) → IsAmong (maps.entries t) x → maps.get t x.0 ≡ Some x.1
entry_got t x m = maps.get-entries t x.0 ∙ sorted_find P paths_total paths_same (maps.entries t) (t_true (maps.is_sorted P (maps.entries t)) (maps.entries_sorted t)) x m

got_entry : (t : Tree) (q : Path) (x : TreeEntry) → maps.get t q ≡ Some x → IsAmong (maps.entries t) (q, x)
got_entry t q x e = find_among P paths_total paths_same (maps.entries t) q x (sym (maps.get-entries t q) ∙ e)

-- ---- kinds

no_directory : (kind : NodeKind) (file : ℕ) → is_kind_directory kind ≡ false → is_dir_of (node_kind kind file) ≡ false
no_directory Directory file is = absurd (true≢false is)
no_directory System file is = refl
no_directory Alias file is = refl

directory_of : (kind : NodeKind) (file : ℕ) → is_dir_of (node_kind kind file) ≡ false → is_kind_directory kind ≡ false
directory_of Directory file is = absurd (true≢false is)
directory_of System file is = refl
directory_of Alias file is = refl

named_kind : (kind wanted : NodeKind) → is_kind_directory wanted ≡ false → kind_eq kind wanted ≡ true → is_kind_directory kind ≡ false
named_kind Directory Directory is same = absurd (true≢false is)
named_kind Directory System is same = absurd (false≢true same)
named_kind Directory Alias is same = absurd (false≢true same)
named_kind System wanted is same = refl
named_kind Alias wanted is same = refl

-- ---- a group of tables

module _ (name : Bytes) (s : Shape) (t : Tables) (cells : ℕ → List Cell) (dir : Path) (pattern : Bytes) (keeps : KeepsRules s t) where
  abbrev nodes : List Numbered
  nodes = t.nodes

  table : IsNodeTable nodes
  table = keeps.tables.nodes

  abbrev g : Group
  g = group_of name s t cells

  tree_is : g.tree ≡ tree_of nodes
  unfolding group_of
  tree_is = refl

  name_is : g.name ≡ name
  unfolding group_of
  name_is = refl

  abbrev names : ℕ → Path
  names n = names_to nodes (length nodes) n

  abbrev text_of : ℕ → Bytes
  text_of n = base.path_text_in_group name (names n)

  module _ (n : ℕ) (node : Node) (at : node_at nodes n ≡ Some node) where
    leads : number_by nodes 0 (folded_path (names n)) ≡ Some n
    leads = to_folded nodes table (names n) n (leads_there nodes n node (names n) table at refl)

    pub way_names : way nodes n ≡ folded_path (names n)
    way_names = way_is nodes (folded_path (names n)) n table leads

    pub world_text : texts.path_text (edits.spelt g (way nodes n)) ≡ text_of n
    world_text =
        let key : folded_path (way nodes n) ≡ folded_path (names n) = ap folded_path way_names ∙ path_same (names n) in
        let there : number_of nodes (way nodes n) ≡ Some n = from_folded nodes table (way nodes n) n (ap (λ (p : Path). number_by nodes 0 p) key ∙ leads) in
        let below : edits.spelt_below g [] (way nodes n) ≡ names n = spelt_is nodes table g tree_is (way nodes n) n there in
        (λ i. texts.path_text (name_is i ∷ below i)) ∙ same_text name (names n)

    pub entry_there : IsAmong (maps.entries g.tree) (way nodes n, entry_of_node node)
    entry_there = subst (λ (m : Tree). IsAmong (maps.entries m) (way nodes n, entry_of_node node)) (sym tree_is)
        (got_entry (tree_of nodes) (way nodes n) (entry_of_node node)
        (tree_has nodes (way nodes n) table ∙ ap (λ (o : Option ℕ). option_map entry_of_node (option_and_then (λ m. node_at nodes m) o)) (way_leads nodes n node table at) ∙ ap (option_map entry_of_node) at))

  -- ---- what the program finds at a node

  record IsFound (n : ℕ) (p : code.Path) : Type 0 where
    node : Node
    at : node_at nodes n ≡ Some node
    match : is_match pattern node.name ≡ true
    under : is_under (folded_path dir) (folded_path (names n)) ≡ true
    is : p ≡ path_of_parts name (names n)

  found_is : (n : ℕ) (p : code.Path) → matching_node_path t name dir pattern n ≡ Some p → IsFound n p
  found_is n p e = by (node_at nodes n) refl where
    by : (o : Option Node) → node_at nodes n ≡ o → IsFound n p
    by None f = absurd (none-some p (rw f at e))
    by (Some node) f = elim (cases_Bool (is_match pattern node.name)) [
      | inl match ↦ elim (cases_Bool (is_under (folded_path dir) (folded_path (names n)))) [
        | inl under ↦ record { node = node; at = f; match = match; under = under; is = sym (same_Some (path_of_parts name (names n)) p (rw (f, match, under) at e)) }
        | inr above ↦ absurd (none-some p (rw (f, match, above) at e))
      ]
      | inr other ↦ absurd (none-some p (rw (f, other) at e))
    ]

  is_found : (n : ℕ) (node : Node) → node_at nodes n ≡ Some node → is_match pattern node.name ≡ true → is_under (folded_path dir) (folded_path (names n)) ≡ true
      → matching_node_path t name dir pattern n ≡ Some (path_of_parts name (names n))
  is_found n node at match under = rw (at, match, under) refl

  -- ---- what the world finds at an entry

  record IsShown (x : Path × TreeEntry) (text : Bytes) : Type 0 where
    under : is_under (folded_path dir) x.0 ≡ true
    match : is_match pattern x.1.name ≡ true
    file : is_dir_of x.1.node ≡ false
    is : text ≡ texts.path_text (edits.spelt g x.0)

  shown_is : (x : Path × TreeEntry) (text : Bytes) → found_path g (folded_path dir) pattern x ≡ Some text → IsShown x text
  shown_is x text e = elim (cases_Bool (is_under (folded_path dir) x.0)) [
    | inl under ↦ elim (cases_Bool (is_match pattern x.1.name)) [
      | inl match ↦ elim (cases_Bool (is_dir_of x.1.node)) [
        | inl directory ↦ absurd (none-some text (rw (under, match, directory) at e))
        | inr file ↦ record { under = under; match = match; file = file; is = sym (same_Some (texts.path_text (edits.spelt g x.0)) text (rw (under, match, file) at e)) }
      ]
      | inr other ↦ absurd (none-some text (rw (under, other) at e))
    ]
    | inr above ↦ absurd (none-some text (rw above at e))
  ]

  is_shown : (x : Path × TreeEntry) → is_under (folded_path dir) x.0 ≡ true → is_match pattern x.1.name ≡ true → is_dir_of x.1.node ≡ false
      → found_path g (folded_path dir) pattern x ≡ Some (texts.path_text (edits.spelt g x.0))
  is_shown x under match file = rw (under, match, file) refl

  -- ---- the two lists

  abbrev by_files : List Bytes
  by_files = map path_line (found_of_files t name dir pattern t.files)

  abbrev by_entries : List Bytes
  by_entries = filter_map (found_path g (folded_path dir) pattern) (maps.entries g.tree)

  -- a node that a file names is no directory
  named_file : (f n : ℕ) (wanted : NodeKind) (node : Node) → is_kind_directory wanted ≡ false → node_at nodes n ≡ Some node → rules.names_file_in_tables t f wanted n ≡ true → is_kind_directory node.kind ≡ false
  named_file f n wanted node is at names_it = elim (cases_Bool (n == 0)) [
    | inl root ↦ absurd (none-some node (sym (ap (node_at nodes) (eqb-true n 0 root) ∙ no_root nodes table) ∙ at))
    | inr other ↦
        let named : is_named_as wanted f (Some node) ≡ true = ap (is_named_as wanted f) (sym at) ∙ (rw other at names_it) in
        named_kind node.kind wanted is (and_parts (kind_eq node.kind wanted) (node.file == f) named).0
  ]

  of_node : (f n : ℕ) (wanted : NodeKind) (p : code.Path) → is_kind_directory wanted ≡ false → rules.names_file_in_tables t f wanted n ≡ true → matching_node_path t name dir pattern n ≡ Some p → IsAmong by_entries (path_line p)
  of_node f n wanted p is names_it e =
      let found = found_is n p e in
      let file = no_directory found.node.kind found.node.file (named_file f n wanted found.node is found.at names_it) in
      let under : is_under (folded_path dir) (way nodes n) ≡ true = ap (is_under (folded_path dir)) (way_names n found.node found.at) ∙ found.under in
      let text : texts.path_text (edits.spelt g (way nodes n)) ≡ path_line p = world_text n found.node found.at ∙ ap path_line (sym found.is) in
      filtered_to (found_path g (folded_path dir) pattern) (maps.entries g.tree) (way nodes n, entry_of_node found.node) (path_line p) (entry_there n found.node found.at)
      (is_shown (way nodes n, entry_of_node found.node) under found.match file ∙ ap (λ (b : Bytes). Some b) text)

  to_entries : (x : Bytes) → IsAmong by_files x → IsAmong by_entries x
  to_entries x m =
      let a = mapped_from path_line (found_of_files t name dir pattern t.files) x m in
      let b = flat_from (found_of_file t name dir pattern) t.files a.0 a.1 in
      let f = b.0 in
      let both = and_parts (rules.names_file_in_tables t f.0 System f.1.system) (rules.names_file_in_tables t f.0 Alias f.1.alias) (passes_each (rules.has_names t) t.files keeps.names f b.1) in
      subst (λ (y : Bytes). IsAmong by_entries y) (sym a.2)
      (⊎_elim
      (λ system. of_node f.0 f.1.system System a.0 refl both.0 (one_from (matching_node_path t name dir pattern f.1.system) a.0 system))
      (λ alias. of_node f.0 f.1.alias Alias a.0 refl both.1 (one_from (matching_node_path t name dir pattern f.1.alias) a.0 alias))
      (append_from (option_to_list (matching_node_path t name dir pattern f.1.system)) (option_to_list (matching_node_path t name dir pattern f.1.alias)) a.0 b.2))

  -- the node of an entry
  pub record IsOf (x : Path × TreeEntry) : Type 0 where
    pub n : ℕ
    pub node : Node
    pub at : node_at nodes n ≡ Some node
    pub key : x.0 ≡ way nodes n
    pub is : x.1 ≡ entry_of_node node

  pub entry_node : (x : Path × TreeEntry) → IsAmong (maps.entries g.tree) x → IsOf x
  entry_node x m = by (number_by nodes 0 x.0) refl where
    got : option_map entry_of_node (node_by nodes x.0) ≡ Some x.1
    got = sym (tree_has nodes x.0 table) ∙ entry_got (tree_of nodes) x (subst (λ (w : Tree). IsAmong (maps.entries w) x) tree_is m)

    at_number : (n : ℕ) → number_by nodes 0 x.0 ≡ Some n → (o : Option Node) → node_at nodes n ≡ o → option_map entry_of_node o ≡ Some x.1 → IsOf x
    at_number n e None f is = absurd (none-some x.1 is)
    at_number n e (Some node) f is = record { n = n; node = node; at = f; key = sym (way_is nodes x.0 n table e); is = sym (same_Some (entry_of_node node) x.1 is) }

    by : (o : Option ℕ) → number_by nodes 0 x.0 ≡ o → IsOf x
    by None e = absurd (none-some x.1 (sym (ap (λ (o : Option ℕ). option_map entry_of_node (option_and_then (λ m. node_at nodes m) o)) e) ∙ got))
    by (Some n) e = at_number n e (node_at nodes n) refl (sym (ap (λ (o : Option ℕ). option_map entry_of_node (option_and_then (λ m. node_at nodes m) o)) e) ∙ got)

  entry_text : (x : Path × TreeEntry) (of : IsOf x) (text : Bytes) → IsShown x text → text ≡ text_of of.n
  entry_text x of text shown = shown.is ∙ ap (λ (k : Path). texts.path_text (edits.spelt g k)) of.key ∙ world_text of.n of.node of.at

  -- the file that names a node
  record IsNamed (n : ℕ) : Type 0 where
    file : NumberedFile
    among : IsAmong t.files file
    which : (file.1.system ≡ n) ⊎ (file.1.alias ≡ n)

  named_back : (n : ℕ) (node : Node) → node_at nodes n ≡ Some node → is_kind_directory node.kind ≡ false → IsNamed n
  named_back n node at file =
      let passes : rules.is_named_back t (n, node) ≡ true = found_passes (rules.is_named_back t) nodes n node keeps.nodes at in
      let back : names_back node.kind n (head_at t.files node.file) ≡ true = rw file at passes in
      by (head_at t.files node.file) refl node.kind back
    where
      by : (o : Option FileHead) → head_at t.files node.file ≡ o → (kind : NodeKind) → names_back kind n o ≡ true → IsNamed n
      by None e kind back = absurd (false≢true back)
      by (Some head) e Directory back = absurd (false≢true back)
      by (Some head) e System back = record { file = (node.file, head); among = head_among t.files node.file head e; which = inl (eqb-true head.system n back) }
      by (Some head) e Alias back = record { file = (node.file, head); among = head_among t.files node.file head e; which = inr (eqb-true head.alias n back) }

  to_files : (x : Bytes) → IsAmong by_entries x → IsAmong by_files x
  to_files x m =
      let a = filtered_from (found_path g (folded_path dir) pattern) (maps.entries g.tree) x m in
      let shown = shown_is a.0 x a.2 in
      let of = entry_node a.0 a.1 in
      let file : is_kind_directory of.node.kind ≡ false = directory_of of.node.kind of.node.file (ap (λ (e : TreeEntry). is_dir_of e.node) (sym of.is) ∙ shown.file) in
      let match : is_match pattern of.node.name ≡ true = ap (λ (e : TreeEntry). is_match pattern e.name) (sym of.is) ∙ shown.match in
      let under : is_under (folded_path dir) (folded_path (names of.n)) ≡ true = ap (is_under (folded_path dir)) (sym (of.key ∙ way_names of.n of.node of.at)) ∙ shown.under in
      let found = is_found of.n of.node of.at match under in
      let named = named_back of.n of.node of.at file in
      let f = named.file in
      let p : code.Path = path_of_parts name (names of.n) in
      let in_file : IsAmong (found_of_file t name dir pattern f) p = ⊎_elim
      (λ (system : f.1.system ≡ of.n). append_front (option_to_list (matching_node_path t name dir pattern f.1.system)) (option_to_list (matching_node_path t name dir pattern f.1.alias)) p
      (one_to (matching_node_path t name dir pattern f.1.system) p (ap (matching_node_path t name dir pattern) system ∙ found)))
      (λ (alias : f.1.alias ≡ of.n). append_back (option_to_list (matching_node_path t name dir pattern f.1.system)) (option_to_list (matching_node_path t name dir pattern f.1.alias)) p
      (one_to (matching_node_path t name dir pattern f.1.alias) p (ap (matching_node_path t name dir pattern) alias ∙ found)))
      named.which in
      subst (λ (y : Bytes). IsAmong by_files y) (sym (entry_text a.0 of x shown))
      (mapped_to path_line (found_of_files t name dir pattern t.files) p (flat_to (found_of_file t name dir pattern) t.files f p named.among in_file))

  apart : AreApart by_entries
  apart x y m k same =
      let a = filtered_from (found_path g (folded_path dir) pattern) (maps.entries g.tree) x m in
      let b = filtered_from (found_path g (folded_path dir) pattern) (maps.entries g.tree) y k in
      let of = entry_node a.0 a.1 in
      let other = entry_node b.0 b.1 in
      let x_is = entry_text a.0 of x (shown_is a.0 x a.2) in
      let y_is = entry_text b.0 other y (shown_is b.0 y b.2) in
      let keys : folded_path (names of.n) ≡ folded_path (names other.n) = parts_told name (names of.n) (names other.n) (names_are_parts nodes table (length nodes) of.n) (names_are_parts nodes table (length nodes) other.n)
      (ap folded (sym x_is) ∙ (same ∙ ap folded y_is)) in
      let numbers : of.n ≡ other.n = some_is of.n other.n (sym (leads of.n of.node of.at) ∙ (ap (λ (q : Path). number_by nodes 0 q) keys ∙ leads other.n other.node other.at)) in
      x_is ∙ (ap text_of numbers ∙ sym y_is)

  found_same : map path_line (paths_found t name dir pattern) ≡ world.found_in g dir pattern
  found_same = order_is (found_of_files t name dir pattern t.files) ∙ same_texts by_files by_entries to_entries to_files apart

pub found_are_worlds : FoundAreWorlds
found_are_worlds name s t cells dir pattern keeps = found_same name s t cells dir pattern keeps
