-- What du tells: by the files in the tables, and by the entries of the world's tree.
use Rattle.std.proofs.Common.{◌≡◌, ℕ, ◌+◌, ◌*◌, ◌<◌, Bool, true, false, List, [], ◌∷◌, length, map, inl, inr, Option, Some, None, refl, sym, ap, subst, ◌∙◌, arith}
use Rattle.std.specs.Prelude.{◌==◌, filter_map, is_some, sum, sum_by, if◌then◌else◌}
use Rattle.std.specs.FinMap as maps
use Rattle.std.specs.FinMap.Entries.{below_all}
use Rattle.std.proofs.Math.Dec.{T}
use Rattle.std.specs.Option.{option_map}
use Rattle.std.specs.Ordering.{nat_cmp, is_eq, is_lt}
use Rattle.std.specs.declared.cmp.Ordering.{Ordering}
use Rattle.std.specs.declared.cmp.Ordering.TheVariants.{Less, Equal, Greater}
use Rattle.std.proofs.lemmas.Bool.{and_parts, cases_Bool, eqb-true, false≢true}
use Rattle.std.proofs.lemmas.Cmp.{nat_cmp_total}
use Rattle.std.proofs.lemmas.List.Sums.{sum-map, sum_by-cons}
use Rattle.std.proofs.lemmas.Option.{none-some, same_Some}
use Rattle.asm_formats.specs.Among.{IsAmong}
use Rattle.asm_formats.specs.Items.{FileHead, Node}
use Rattle.asm_formats.specs.Nodes.{entry_of_node, node_kind}
use Rattle.asm_group.specs.declared.NodeKind.{NodeKind}
use Rattle.asm_group.specs.declared.NodeKind.TheVariants.{Directory, System, Alias}
use Rattle.asm_group.specs.Group as group
use Rattle.asm_group.specs.Group.{Cell, Group, TreeEntry, TreeNode}
use Rattle.asm_group.specs.Names.{Bytes, Path, folded_path}
use Rattle.asm_group.specs.TreeEdits.{is_under}
use Rattle.asm_placement.specs.Naming.{is_named_as, kind_eq, names_back}
use Rattle.asm_world.specs.Below.{GroupBelow}
use Rattle.asm_world.specs.Files.{size_of_file}
use Rattle.asm_world.specs.Listings as world
use Rattle.asm_world.specs.Listings.{file_below, files_below}
use Rattle.asm_world.specs.Reports.{du_lines}
use Rattle.alias_tree.specs.Nodes.{Numbered, node_at}
use Rattle.alias_tree.specs.Spelling.{names_to}
use Rattle.alias_tree.proofs.Ways.{is_key, key_self, no_root, way}
use Rattle.file_directory.specs.Files.{NumberedFile, head_at}
use Rattle.catalog_tables.specs.Rules as rules
use Rattle.catalog_tables.specs.Rules.{KeepsRules}
use Rattle.catalog_tables.specs.Tables.{Catalogued, Tables}
use Rattle.catalog_tables.proofs.TableItems.{among_found, numbers_exact}
use Rattle.group_of.proofs.catalog.NumberedEntries.{found_passes, passes_each}
use Rattle.group_of.specs.Groups as groups
use Rattle.group_of.specs.Groups.{HasCells, group_of}
use Rattle.group_of.proofs.HeadedFiles.{files_are, head_among}
use Rattle.group_reports.specs.Extents.{file_units}
use Rattle.group_reports.specs.Files.{bytes_below, if_file_below, mirrored_of, file_size}
use Rattle.group_reports.specs.Places.{path_below}
use Rattle.group_reports.proofs.FileWalk.{AreAbove, Rise, rises}
use Rattle.report_laws.specs.Usage.{UsageIsWorlds}
use Rattle.report_laws.proofs.Finds.{Entries, IsOf, P, entry_node, entry_there, filtered_from, filtered_to, way_names}
use Rattle.report_laws.proofs.SameSums.{Distinct, distinct_given, same_sums}

-- ---- files and entries stand once

above_other : (n : ℕ) (files : List NumberedFile) → AreAbove n files → (f : NumberedFile) → IsAmong files f → n < f.0
above_other n [] above f m = absurd m
above_other n (x ∷ files) above f (inl here) = subst (λ (g : NumberedFile). n < g.0) (sym here) above.0
above_other n (x ∷ files) above f (inr later) = above_other n files above.1 f later

files_once : (files : List NumberedFile) → Rise files → Distinct files
files_once [] up = tt
files_once (f ∷ files) up = ((λ m. let less = above_other f.0 files up.0 f m in omega (arith, less)), files_once files up.1)

is_true : (b : Bool) → T b → b ≡ true
is_true true h = refl
is_true false h = absurd h

not_both : (o : Ordering) → is_lt o ≡ true → is_eq o ≡ true → ⊥
not_both Less a b = absurd cc
not_both Equal a b = absurd cc
not_both Greater a b = absurd cc

not_behind : (x : Path × TreeEntry) (es : Entries) → below_all P x.0 es ≡ true → IsAmong es x → ⊥
not_behind x [] below m = absurd m
not_behind x (y ∷ es) below m =
    let p = and_parts (is_lt (P x.0 y.0)) (below_all P x.0 es) below in
    elim m [
      | inl here ↦ not_both (P x.0 y.0) p.0 (subst (λ (e : Path × TreeEntry). is_key x.0 e.0 ≡ true) here (key_self x.0))
      | inr later ↦ not_behind x es p.1 later
    ]

entries_once : (es : Entries) → maps.is_sorted P es ≡ true → Distinct es
entries_once [] up = tt
entries_once (x ∷ es) up =
    let p = and_parts (below_all P x.0 es) (maps.is_sorted P es) up in
    (not_behind x es p.0, entries_once es p.1)

-- ---- the file of an entry

entry_file : (d key : Path) (e : TreeEntry) (n : ℕ) → is_under d key ≡ true → e.node ≡ group.System n → file_below d (key, e) ≡ Some n
entry_file d key e n under is = rw (under, is) refl

record IsFile (d key : Path) (e : TreeEntry) (n : ℕ) : Type 0 where
  under : is_under d key ≡ true
  is : e.node ≡ group.System n

file_of_entry : (d key : Path) (e : TreeEntry) (n : ℕ) → file_below d (key, e) ≡ Some n → IsFile d key e n
file_of_entry d key e n h = elim (cases_Bool (is_under d key)) [
  | inl under ↦ record { under = under; is = by e.node refl under }
  | inr above ↦ absurd (none-some n (rw above at h))
]
  where
    by : (node : TreeNode) → e.node ≡ node → is_under d key ≡ true → node ≡ group.System n
    by group.Dir at under = absurd (none-some n (rw (under, at) at h))
    by (group.System m) at under = ap (λ (k : ℕ). group.System k) (same_Some m n (rw (under, at) at h))
    by (group.Alias m) at under = absurd (none-some n (rw (under, at) at h))

record IsSystem (kind : NodeKind) (file n : ℕ) : Type 0 where
  kind_is : kind ≡ System
  file_is : file ≡ n

system_of : (kind : NodeKind) (file n : ℕ) → node_kind kind file ≡ group.System n → IsSystem kind file n
system_of Directory file n e = absurd cc
system_of System file n e = record { kind_is = refl; file_is = cc }
system_of Alias file n e = absurd cc

system_kind : (kind : NodeKind) (file : ℕ) → kind_eq kind System ≡ true → node_kind kind file ≡ group.System file
system_kind Directory file e = absurd (false≢true e)
system_kind System file e = refl
system_kind Alias file e = absurd (false≢true e)

-- ---- sums by the files' numbers

-- the number of a file whose system name lies below a directory
abbrev number_below : Tables → Bytes → Path → NumberedFile → Option ℕ
number_below t name dir f = if is_some (path_below t name dir f.1.system) then Some f.0 else None

sum_of_numbers : (t : Tables) (name : Bytes) (dir : Path) (bytes : NumberedFile → ℕ) (weight : ℕ → ℕ) (files : List NumberedFile) → ((f : NumberedFile) → IsAmong files f → weight f.0 ≡ bytes f)
    → sum_by (if_file_below t name dir bytes) files ≡ sum_by weight (filter_map (number_below t name dir) files)
sum_of_numbers t name dir bytes weight [] same = refl
sum_of_numbers t name dir bytes weight (f ∷ files) same =
    sum_by-cons (if_file_below t name dir bytes) f files
    ∙ (ap (λ (n : ℕ). if_file_below t name dir bytes f + n) (sum_of_numbers t name dir bytes weight files (λ g m. same g (inr m)))
    ∙ by (is_some (path_below t name dir f.1.system)) refl)
  where
    rest : List ℕ
    rest = filter_map (number_below t name dir) files

    by : (b : Bool) → is_some (path_below t name dir f.1.system) ≡ b → if_file_below t name dir bytes f + sum_by weight rest ≡ sum_by weight (filter_map (number_below t name dir) (f ∷ files))
    by true e = rw e (ap (λ (n : ℕ). n + sum_by weight rest) (sym (same f (inl refl))) ∙ sym (sum_by-cons weight f.0 rest))
    by false e = rw e (omega arith)

-- ---- the two lists of files

module _ (name : Bytes) (c : Catalogued) (cells : ℕ → List Cell) (dir : Path) (keeps : KeepsRules c.shape c.tables) where
  abbrev t : Tables
  t = c.tables

  abbrev nodes : List Numbered
  nodes = t.nodes

  abbrev g : Group
  g = group_of name c.shape t cells

  abbrev names : ℕ → Path
  names n = names_to nodes (length nodes) n

  abbrev by_files : List ℕ
  by_files = filter_map (number_below t name dir) t.files

  abbrev by_entries : List ℕ
  by_entries = files_below g dir

  head_there : (f : NumberedFile) → IsAmong t.files f → head_at t.files f.0 ≡ Some f.1
  head_there f m = among_found nat_cmp nat_cmp_total numbers_exact t.files f keeps.tables.files.0 m

  -- a file below the directory has a system node there
  record IsBelow (f : NumberedFile) (n : ℕ) : Type 0 where
    number : n ≡ f.0
    node : Node
    at : node_at nodes f.1.system ≡ Some node
    under : is_under (folded_path dir) (folded_path (names f.1.system)) ≡ true

  is_below : (f : NumberedFile) (n : ℕ) → number_below t name dir f ≡ Some n → IsBelow f n
  is_below f n e = by (node_at nodes f.1.system) refl where
    by : (o : Option Node) → node_at nodes f.1.system ≡ o → IsBelow f n
    by None at = absurd (none-some n (rw at at e))
    by (Some node) at = elim (cases_Bool (is_under (folded_path dir) (folded_path (names f.1.system)))) [
      | inl under ↦ record { number = sym (same_Some f.0 n (rw (at, under) at e)); node = node; at = at; under = under }
      | inr above ↦ absurd (none-some n (rw (at, above) at e))
    ]

  below_is : (f : NumberedFile) (node : Node) → node_at nodes f.1.system ≡ Some node → is_under (folded_path dir) (folded_path (names f.1.system)) ≡ true → number_below t name dir f ≡ Some f.0
  below_is f node at under = rw (at, under) refl

  -- the system node of a file is one, and names the file
  node_of_file : (f : NumberedFile) (node : Node) → IsAmong t.files f → node_at nodes f.1.system ≡ Some node → node_kind node.kind node.file ≡ group.System f.0
  node_of_file f node m at = elim (cases_Bool (f.1.system == 0)) [
    | inl root ↦ absurd (none-some node (sym (ap (node_at nodes) (eqb-true f.1.system 0 root) ∙ no_root nodes keeps.tables.nodes) ∙ at))
    | inr other ↦
        let names_it : rules.names_file_in_tables t f.0 System f.1.system ≡ true = (and_parts (rules.names_file_in_tables t f.0 System f.1.system) (rules.names_file_in_tables t f.0 Alias f.1.alias) (passes_each (rules.has_names t) t.files keeps.names f m)).0 in
        let named : is_named_as System f.0 (Some node) ≡ true = ap (is_named_as System f.0) (sym at) ∙ (rw other at names_it) in
        let parts = and_parts (kind_eq node.kind System) (node.file == f.0) named in
        system_kind node.kind node.file parts.0 ∙ ap (λ (k : ℕ). group.System k) (eqb-true node.file f.0 parts.1)
  ]

  to_entries : (n : ℕ) → IsAmong by_files n → IsAmong by_entries n
  to_entries n m =
      let a = filtered_from (number_below t name dir) t.files n m in
      let f = a.0 in
      let file = is_below f n a.2 in
      let way_under : is_under (folded_path dir) (way nodes f.1.system) ≡ true = ap (is_under (folded_path dir)) (way_names name c.shape t cells dir [] keeps f.1.system file.node file.at) ∙ file.under in
      subst (λ (k : ℕ). IsAmong by_entries k) (sym file.number)
      (filtered_to (file_below (folded_path dir)) (maps.entries g.tree) (way nodes f.1.system, entry_of_node file.node) f.0 (entry_there name c.shape t cells dir [] keeps f.1.system file.node file.at)
      (entry_file (folded_path dir) (way nodes f.1.system) (entry_of_node file.node) f.0 way_under (node_of_file f file.node a.1 file.at)))

  -- the file of a system entry is there, and its system node is the entry's
  record IsFiled (x : Path × TreeEntry) (n : ℕ) : Type 0 where
    of : IsOf name c.shape t cells dir [] keeps x
    under : is_under (folded_path dir) x.0 ≡ true
    head : FileHead
    at : head_at t.files n ≡ Some head
    system : head.system ≡ of.n

  filed : (x : Path × TreeEntry) (n : ℕ) → IsAmong (maps.entries g.tree) x → file_below (folded_path dir) x ≡ Some n → IsFiled x n
  filed x n m e =
      let of = entry_node name c.shape t cells dir [] keeps x m in
      let shown = file_of_entry (folded_path dir) x.0 x.1 n e in
      let is = system_of of.node.kind of.node.file n (ap (λ (y : TreeEntry). y.node) (sym of.is) ∙ shown.is) in
      let passes : rules.is_named_back t (of.n, of.node) ≡ true = found_passes (rules.is_named_back t) nodes of.n of.node keeps.nodes of.at in
      let back : names_back System of.n (head_at t.files n) ≡ true = rw (is.kind_is, is.file_is) at passes in
      by of shown.under (head_at t.files n) refl back
    where
      by : (of : IsOf name c.shape t cells dir [] keeps x) → is_under (folded_path dir) x.0 ≡ true → (o : Option FileHead) → head_at t.files n ≡ o → names_back System of.n o ≡ true → IsFiled x n
      by of under None at back = absurd (false≢true back)
      by of under (Some head) at back = record { of = of; under = under; head = head; at = at; system = eqb-true head.system of.n back }

  to_files : (n : ℕ) → IsAmong by_entries n → IsAmong by_files n
  to_files n m =
      let a = filtered_from (file_below (folded_path dir)) (maps.entries g.tree) n m in
      let x = a.0 in
      let file = filed x n a.1 a.2 in
      let of = file.of in
      let node_there : node_at nodes file.head.system ≡ Some of.node = ap (node_at nodes) file.system ∙ of.at in
      let key : x.0 ≡ folded_path (names of.n) = of.key ∙ way_names name c.shape t cells dir [] keeps of.n of.node of.at in
      let under : is_under (folded_path dir) (folded_path (names file.head.system)) ≡ true =
      ap (λ (k : ℕ). is_under (folded_path dir) (folded_path (names k))) file.system ∙ (ap (is_under (folded_path dir)) (sym key) ∙ file.under) in
      filtered_to (number_below t name dir) t.files (n, file.head) n (head_among t.files n file.head file.at) (below_is (n, file.head) of.node node_there under)

  files_apart : Distinct by_files
  files_apart = distinct_given (number_below t name dir) t.files (files_once t.files (rises t.files keeps.tables.files.0)) one where
    one : (f h : NumberedFile) → IsAmong t.files f → IsAmong t.files h → (n : ℕ) → number_below t name dir f ≡ Some n → number_below t name dir h ≡ Some n → f ≡ h
    one f h m k n e d =
        let numbers : f.0 ≡ h.0 = sym (is_below f n e).number ∙ (is_below h n d).number in
        let heads : f.1 ≡ h.1 = same_Some f.1 h.1 (sym (head_there f m) ∙ (ap (head_at t.files) numbers ∙ head_there h k)) in
        λ i. (numbers i, heads i)

  entries_apart : Distinct by_entries
  entries_apart = distinct_given (file_below (folded_path dir)) (maps.entries g.tree) (entries_once (maps.entries g.tree) (is_true (maps.is_sorted P (maps.entries g.tree)) (maps.entries_sorted g.tree))) one where
    one : (x y : Path × TreeEntry) → IsAmong (maps.entries g.tree) x → IsAmong (maps.entries g.tree) y → (n : ℕ) → file_below (folded_path dir) x ≡ Some n → file_below (folded_path dir) y ≡ Some n → x ≡ y
    one x y m k n e d =
        let a = filed x n m e in
        let b = filed y n k d in
        let heads : a.head ≡ b.head = same_Some a.head b.head (sym a.at ∙ b.at) in
        let numbers : a.of.n ≡ b.of.n = sym a.system ∙ (ap (λ (h : FileHead). h.system) heads ∙ b.system) in
        let same : a.of.node ≡ b.of.node = same_Some a.of.node b.of.node (sym a.of.at ∙ (ap (node_at nodes) numbers ∙ b.of.at)) in
        let keys : x.0 ≡ y.0 = a.of.key ∙ (ap (way nodes) numbers ∙ sym b.of.key) in
        let entries : x.1 ≡ y.1 = a.of.is ∙ (ap entry_of_node same ∙ sym b.of.is) in
        λ i. (keys i, entries i)

  -- the sum over the files is the one over the entries
  told : (bytes : NumberedFile → ℕ) (weight : ℕ → ℕ) → ((f : NumberedFile) → IsAmong t.files f → weight f.0 ≡ bytes f) → bytes_below t name dir bytes t.files ≡ sum (map weight by_entries)
  told bytes weight same =
      sum_of_numbers t name dir bytes weight t.files same
      ∙ (same_sums weight by_files by_entries files_apart entries_apart to_entries to_files ∙ sym (sum-map weight by_entries))

  module _ (has : HasCells t cells) (below : GroupBelow) (units : below.units ≡ file_units c) where
    size_is : (f : NumberedFile) → IsAmong t.files f → size_of_file (maps.get g.files f.0) ≡ file_size f
    unfolding group_of
    size_is f m = ap size_of_file (files_are cells t.files f.0 ∙ ap (λ (o : Option FileHead). option_map (λ (h : FileHead). groups.file_of_head h (cells f.0)) o) (head_there f m)) ∙ has f.0 f.1 (head_there f m)

    mirrored_is : (f : NumberedFile) → IsAmong t.files f → below.units f.0 * g.shape.au ≡ mirrored_of c f
    unfolding group_of
    mirrored_is f m = ap (λ (u : ℕ → ℕ). u f.0 * c.shape.au) units

    usage_same : du_lines (bytes_below t name dir file_size t.files) (bytes_below t name dir (mirrored_of c) t.files) ≡ world.usage_of below g dir
    usage_same =
        ap (λ (n : ℕ). du_lines n (bytes_below t name dir (mirrored_of c) t.files)) (told file_size (λ n. size_of_file (maps.get g.files n)) size_is)
        ∙ ap (λ (n : ℕ). du_lines (sum (map (λ k. size_of_file (maps.get g.files k)) by_entries)) n) (told (mirrored_of c) (λ n. below.units n * g.shape.au) mirrored_is)

pub usage_is_worlds : UsageIsWorlds
usage_is_worlds name c cells below dir keeps has units = usage_same name c cells dir keeps has below units
