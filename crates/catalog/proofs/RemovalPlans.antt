-- Plans of the removal of a file.
use Rattle.std.proofs.Common.{◌≡◌, ◌<◌, ◌≤◌, ◌^◌, ℕ, Bool, true, false, cond, ltb, eqb, List, [], ◌∷◌, length, Option, Some, None, refl, sym, ap, subst, ◌∙◌, arith, inl, inr, ◌⊎◌}
use Rattle.std.specs.Prelude.{◌&&◌, ◌||◌, IsTrue, is_some}
use Rattle.std.specs.Ordering.{nat_cmp}
use Rattle.std.specs.BTreeMap.{is_at}
use Rattle.std.proofs.lemmas.Bool.{and_parts, and_from, eqb-true, eq-eqb, ltb-true, true≢false}
use Rattle.std.proofs.lemmas.Cmp.{nat_cmp_total}
use Rattle.std.proofs.lemmas.Option.{none-some}
use Rattle.asm_group.specs.Names.{is_part}
use Rattle.asm_group.specs.Shape.{Shape}
use Rattle.asm_group.specs.declared.NodeKind.{NodeKind}
use Rattle.asm_group.specs.declared.NodeKind.TheVariants.{Directory, System, Alias}
use Rattle.asm_formats.specs.Among.{IsAmong}
use Rattle.asm_formats.specs.Items.{FileHead, Key, Node, Pending, file_item, is_item, is_redundancy, node_item, pending_item}
use Rattle.asm_formats.specs.Values.{value}
use Rattle.asm_base.specs.Records.{DirectoryRecord, is_key}
use Rattle.asm_base.specs.Tables.{IsItemTable, item_record}
use Rattle.plan_records.specs.file_directory.Files.{NumberedFile, head_at, is_file_number, without_head}
use Rattle.plan_records.proofs.file_directory.Laws.{remove_keeps_table}
use Rattle.plan_records.specs.extent_map.Extents.{Chunked}
use Rattle.plan_records.specs.alias_tree.Nodes.{IsNodeTable, Numbered, is_before, item_of_node, node_at, without_numbered_node}
use Rattle.plan_records.specs.alias_tree.Nodes as nodes
use Rattle.plan_records.proofs.alias_tree.Keeping.{Pruned, at_without, pruned_keeps_table, without_items}
use Rattle.plan_records.proofs.alias_tree.OpenLaws.{record_gone}
use Rattle.plan_records.proofs.alias_tree.Readings.{number_is_some}
use Rattle.plan_records.specs.operations_directory.Operations as operations
use Rattle.plan_records.proofs.operations_directory.ChangeLaws as operation_laws
use Rattle.plan_records.specs.catalog_tables.Faults.{IsCatalog, file_key, node_key}
use Rattle.plan_records.specs.Operations.{removal_of}
use Rattle.catalog.specs.FilePlans.{IsRemovalPlan, is_on_file, without_names}
use Rattle.catalog.specs.Plans.{AreOwned, IsPlan}
use Rattle.asm_placement.specs.Naming.{is_kind_directory, is_named_as, kind_eq, names_back}
use Rattle.plan_records.specs.catalog_tables.Rules.{HasExtents, KeepsRules, are_within_head, first_wrong, has_names, is_named_back, is_owned, keeps_copies, names_file_in_tables}
use Rattle.plan_records.specs.catalog_tables.Tables.{AreTables, Catalogued, Tables, records_of}
use Rattle.plan_records.proofs.catalog_tables.NumberedLists.{all_there, either, gone_at, gone_few, number_is, number_itself}
use Rattle.catalog.proofs.NumberedEntries.{found_passes, passes_where, rest_all, rest_passes}
use Rattle.catalog.proofs.Owners.{of_file}
use Rattle.catalog.proofs.PlanLaws.{pending_key}
use Rattle.plan_records.proofs.catalog_tables.SetLaws.{file_gone, nodes_set, operations_set}
use Rattle.plan_records.proofs.catalog_tables.TableItems.{among_found, numbers_exact}
use Rattle.plan_records.proofs.catalog_tables.NewRecords.{HasRoom, old_room}
use Rattle.catalog.proofs.PutItems.{plan_is}

system_of_item : (f : ℕ) (head : FileHead) → is_item (file_item f head) ≡ true → 0 < head.system
unfolding is_item
system_of_item f head ok =
    let nodes_fit = ltb 0 head.system && (ltb head.system (2 ^ 32) && ltb head.alias (2 ^ 32)) in
    let numbers_fit = ltb head.size (2 ^ 64) && (ltb head.incarnation (2 ^ 64) && nodes_fit) in
    let a = and_parts (ltb f (2 ^ 32)) (is_redundancy head.copies && (is_part 30 head.type_name && numbers_fit)) ok in
    let b = and_parts (is_redundancy head.copies) (is_part 30 head.type_name && numbers_fit) a.1 in
    let d = and_parts (is_part 30 head.type_name) numbers_fit b.1 in
    let e = and_parts (ltb head.size (2 ^ 64)) (ltb head.incarnation (2 ^ 64) && nodes_fit) d.1 in
    let g = and_parts (ltb head.incarnation (2 ^ 64)) nodes_fit e.1 in
    let h = and_parts (ltb 0 head.system) (ltb head.system (2 ^ 32) && ltb head.alias (2 ^ 32)) g.1 in
    ltb-true 0 head.system h.0

-- ---- keys that go one after the other

two_go : (a b : Bool) (x : Option (List ℕ)) → cond b None (cond a None x) ≡ cond (a || (b || false)) None x
two_go true true x = refl
two_go true false x = refl
two_go false true x = refl
two_go false false x = refl

three_go : (a b d : Bool) (x : Option (List ℕ)) → cond d None (cond b None (cond a None x)) ≡ cond (a || (b || (d || false))) None x
three_go true true true x = refl
three_go true true false x = refl
three_go true false true x = refl
three_go true false false x = refl
three_go false true true x = refl
three_go false true false x = refl
three_go false false true x = refl
three_go false false false x = refl

-- ---- the file and its names

module _ (s : Shape) (t : Tables) (f : ℕ) (head : FileHead) (r : KeepsRules s t) (there : head_at t.files f ≡ Some head) where
  at_other : (g : ℕ) → is_at (nat_cmp f) g ≡ false → head_at (without_head t.files f) g ≡ head_at t.files g
  at_other g miss = gone_at f g t.files r.tables.files.0 ∙ rw miss refl

  at_file : (g : ℕ) → is_at (nat_cmp f) g ≡ true → head_at (without_head t.files f) g ≡ None
  at_file g hit = gone_at f g t.files r.tables.files.0 ∙ rw hit refl

  head_of : (g : ℕ) → is_at (nat_cmp f) g ≡ true → head_at t.files g ≡ Some head
  head_of g hit = ap (λ (n : ℕ). head_at t.files n) (sym (number_is f g hit)) ∙ there

  item : is_item (file_item f head) ≡ true
  item = all_there (λ x. IsTrue (is_item (file_item x.0 x.1))) t.files r.tables.files.1 f head there

  own_names : has_names t (f, head) ≡ true
  own_names = found_passes (has_names t) t.files f head r.names there

  -- nodes that go: that of the system name, and that of the alias if there is one
  pub record Goes (gone : ℕ → Bool) : Type 0 where
    pub system : gone head.system ≡ true
    pub alias : (head.alias ≡ 0) ⊎ (gone head.alias ≡ true)
    pub others : (n : ℕ) → gone n ≡ true → (n ≡ head.system) ⊎ (n ≡ head.alias)
    pub root : gone 0 ≡ false

  -- what goes is a name of the file
  own_name : (gone : ℕ → Bool) (n : ℕ) → Goes gone → gone n ≡ true → eqb n 0 ≡ false → (kind : NodeKind) × (is_named_as kind f (node_at t.nodes n) ≡ true) × (nodes.kind_is_directory kind ≡ false)
  own_name gone n goes hit some =
      let both = and_parts (names_file_in_tables t f System head.system) (names_file_in_tables t f Alias head.alias) own_names in
      elim (goes.others n hit) [
        | inl same ↦ (System, rw some at (subst (λ (m : ℕ). names_file_in_tables t f System m ≡ true) (sym same) both.0), refl)
        | inr same ↦ (Alias, rw some at (subst (λ (m : ℕ). names_file_in_tables t f Alias m ≡ true) (sym same) both.1), refl)
      ]

  two_names : (o : Option Node) (kind k : NodeKind) (g : ℕ) → is_named_as kind g o ≡ true → is_named_as k f o ≡ true → f ≡ g
  two_names None kind k g a b = absurd (true≢false (sym a))
  two_names (Some node) kind k g a b =
      let x = and_parts _ (eqb node.file g) a in
      let y = and_parts _ (eqb node.file f) b in
      sym (eqb-true node.file f y.1) ∙ eqb-true node.file g x.1

  kind_kept : (a k : NodeKind) → kind_eq a k ≡ true → nodes.kind_is_directory k ≡ false → nodes.kind_is_directory a ≡ false
  kind_kept Directory Directory e d = d
  kind_kept Directory System e d = absurd (true≢false (sym e))
  kind_kept Directory Alias e d = absurd (true≢false (sym e))
  kind_kept System k e d = refl
  kind_kept Alias k e d = refl

  no_directory : (o : Option Node) (k : NodeKind) (parent : Node) → is_named_as k f o ≡ true → nodes.kind_is_directory k ≡ false → o ≡ Some parent → nodes.is_directory parent ≡ false
  no_directory None k parent e d at = absurd (true≢false (sym e))
  no_directory (Some node) k parent e d at =
      let same : node ≡ parent = cc in
      let x = and_parts (kind_eq node.kind k) (eqb node.file f) e in
      subst (λ (p : Node). nodes.is_directory p ≡ false) same (kind_kept node.kind k x.0 d)

  some_node : (o : Option Node) (k : NodeKind) → is_named_as k f o ≡ true → (parent : Node) × (o ≡ Some parent)
  some_node None k e = absurd (true≢false (sym e))
  some_node (Some node) k e = (node, refl)

  right_true : (a : Bool) → (a || true) ≡ true
  right_true true = refl
  right_true false = refl

  -- ---- the tables without the file, where its nodes are gone

  module _ (ns : List Numbered) (gone : ℕ → Bool) (goes : Goes gone) (at : (m : ℕ) → node_at ns m ≡ cond (gone m) None (node_at t.nodes m)) (items : IsItemTable is_before item_of_node ns) (few : length ns ≤ length t.nodes)
      (part : first_wrong (is_named_back t) ns ≡ None) where
    abbrev u : Tables
    u = record t { files = without_head t.files f; nodes = ns; operations = record t.operations { pending = Some (removal_of f) } }

    pruned : Pruned t.nodes ns gone
    pruned = record { stay = λ m e. at m ∙ rw e refl; left = λ m e. at m ∙ rw e refl; leaves = leaves } where
      leaves : (m : ℕ) (x : Node) → node_at t.nodes m ≡ Some x → gone x.parent ≡ false
      leaves m x e = elim (either (gone x.parent)) [
        | inr miss ↦ miss
        | inl hit ↦ elim (either (eqb x.parent 0)) [
          | inl zero ↦ absurd (true≢false (sym hit ∙ (ap gone (eqb-true x.parent 0 zero) ∙ goes.root)))
          | inr some ↦
              let own = own_name gone x.parent goes hit some in
              let above = some_node (node_at t.nodes x.parent) own.0 own.1 in
              absurd (true≢false (sym (r.tables.nodes.rule.parents m x above.0 e above.1) ∙ no_directory (node_at t.nodes x.parent) own.0 above.0 own.1 own.2 above.1))
        ]
      ]

    found : (x : Numbered) → IsAmong ns x → node_at ns x.0 ≡ Some x.1
    found x m = among_found nat_cmp nat_cmp_total numbers_exact ns x items.0 m

    stays : (x : Numbered) → IsAmong ns x → gone x.0 ≡ false
    stays x m = elim (either (gone x.0)) [
      | inl hit ↦ absurd (none-some x.1 (sym (at x.0 ∙ rw hit refl) ∙ found x m))
      | inr miss ↦ miss
    ]

    number_some : (x : Numbered) → IsAmong ns x → x.0 ≡ 0 → ⊥
    number_some x m z = let some = (number_is_some x.0 x.1 (all_there (λ y. IsTrue (is_item (node_item y.0 y.1))) ns items.1 x.0 x.1 (found x m))).0 in absurd (omega arith)

    copies_kept : first_wrong (keeps_copies u) t.extents ≡ None
    copies_kept = passes_where (keeps_copies t) (keeps_copies u) t.extents keeps r.redundancy where
      keeps : (x : Chunked) → IsAmong t.extents x → keeps_copies t x ≡ true → keeps_copies u x ≡ true
      keeps x m ok = elim (either (is_at (nat_cmp f) x.0.0)) [
        | inl hit ↦ ap (λ (h : Option FileHead). are_within_head h x.1) (at_file x.0.0 hit)
        | inr miss ↦ ap (λ (h : Option FileHead). are_within_head h x.1) (at_other x.0.0 miss) ∙ ok
      ]

    -- what still names the file is a directory
    loose : (kind : NodeKind) (n : ℕ) → (n ≡ 0 → ⊥) → gone n ≡ false → (is_kind_directory kind || names_back kind n (Some head)) ≡ true → is_kind_directory kind ≡ true
    loose Directory n some stays e = refl
    loose System n some stays e = absurd (true≢false (sym goes.system ∙ (ap gone (eqb-true head.system n e) ∙ stays)))
    loose Alias n some stays e = elim goes.alias [
      | inl zero ↦ absurd (some (sym (eqb-true head.alias n e) ∙ zero))
      | inr hit ↦ absurd (true≢false (sym hit ∙ (ap gone (eqb-true head.alias n e) ∙ stays)))
    ]

    nodes_kept : first_wrong (is_named_back u) ns ≡ None
    nodes_kept = passes_where (is_named_back t) (is_named_back u) ns keeps part where
      keeps : (x : Numbered) → IsAmong ns x → is_named_back t x ≡ true → is_named_back u x ≡ true
      keeps x m ok = elim (either (is_at (nat_cmp f) x.1.file)) [
        | inl hit ↦
            let named : (is_kind_directory x.1.kind || names_back x.1.kind x.0 (Some head)) ≡ true = ap (λ (h : Option FileHead). is_kind_directory x.1.kind || names_back x.1.kind x.0 h) (sym (head_of x.1.file hit)) ∙ ok in
            ap (λ (d : Bool). d || names_back x.1.kind x.0 (head_at u.files x.1.file)) (loose x.1.kind x.0 (number_some x m) (stays x m) named)
        | inr miss ↦ ap (λ (h : Option FileHead). is_kind_directory x.1.kind || names_back x.1.kind x.0 h) (at_other x.1.file miss) ∙ ok
      ]

    name_kept : (g : ℕ) (kind : NodeKind) (n : ℕ) → is_at (nat_cmp f) g ≡ false → names_file_in_tables t g kind n ≡ true → names_file_in_tables u g kind n ≡ true
    name_kept g kind n other ok = elim (either (eqb n 0)) [
      | inl zero ↦ rw zero refl
      | inr some ↦
          let named : is_named_as kind g (node_at t.nodes n) ≡ true = rw some at ok in
          elim (either (gone n)) [
            | inr miss ↦ rw some (ap (λ (o : Option Node). is_named_as kind g o) (at n ∙ rw miss refl) ∙ named)
            | inl hit ↦
                let own = own_name gone n goes hit some in
                let same = two_names (node_at t.nodes n) kind own.0 g named own.1 in
                absurd (true≢false (sym (subst (λ (m : ℕ). is_at (nat_cmp f) m ≡ true) same (number_itself f)) ∙ other))
          ]
    ]

    names_kept : first_wrong (has_names u) u.files ≡ None
    names_kept = passes_where (has_names t) (has_names u) u.files keeps (rest_passes (has_names t) (is_at (nat_cmp f)) t.files r.names) where
      keeps : (x : NumberedFile) → IsAmong u.files x → has_names t x ≡ true → has_names u x ≡ true
      keeps x m ok = elim (either (is_at (nat_cmp f) x.0)) [
        | inl hit ↦ absurd (none-some x.1 (sym (at_file x.0 hit) ∙ among_found nat_cmp nat_cmp_total numbers_exact u.files x (remove_keeps_table t.files f r.tables.files).0 m))
        | inr miss ↦
            let both = and_parts (names_file_in_tables t x.0 System x.1.system) (names_file_in_tables t x.0 Alias x.1.alias) ok in
            and_from (names_file_in_tables u x.0 System x.1.system) (names_file_in_tables u x.0 Alias x.1.alias) (name_kept x.0 System x.1.system miss both.0) (name_kept x.0 Alias x.1.alias miss both.1)
      ]

    tables_kept : operations.IsOperationTable u.operations → AreTables u
    tables_kept is = record { files = remove_keeps_table t.files f r.tables.files; extents = r.tables.extents; nodes = pruned_keeps_table t.nodes ns gone r.tables.nodes pruned items; templates = r.tables.templates; stale = r.tables.stale; operations = is; disks = r.tables.disks }

    pub rules_kept : operations.IsOperationTable u.operations → AreOwned u → KeepsRules s u
    rules_kept is owned = record {
      tables = tables_kept is;
      marked = r.marked;
      chunks = r.chunks;
      owned = owned;
      redundancy = copies_kept;
      apart = r.apart;
      stale = r.stale;
      nodes = nodes_kept;
      names = names_kept;
      extents = rest_all (HasExtents u s) (is_at (nat_cmp f)) t.files r.extents;
      room = let fewer = gone_few (is_at (nat_cmp f)) t.files in omega (arith, fewer, few, r.room);
    }

    pub owned_then : is_on_file t.files t.operations.pending ≡ true → AreOwned u
    owned_then on = passes_where (is_owned t) (is_owned u) t.extents keeps r.owned where
      keeps : (x : Chunked) → IsAmong t.extents x → is_owned t x ≡ true → is_owned u x ≡ true
      keeps x m ok = elim (either (is_at (nat_cmp f) x.0.0)) [
        | inl hit ↦ ap (λ (b : Bool). is_file_number u.files x.0.0 || b) (eq-eqb f x.0.0 (number_is f x.0.0 hit)) ∙ right_true (is_file_number u.files x.0.0)
        | inr miss ↦
            let file = of_file t.files t.operations.pending x.0.0 on ok in
            ap (λ (b : Bool). b || eqb f x.0.0) (ap (λ (o : Option FileHead). is_some o) (at_other x.0.0 miss) ∙ file)
      ]

  -- ---- the records

  abbrev op : Pending
  op = removal_of f

  abbrev begun : Tables
  begun = record t { operations = record t.operations { pending = Some op } }

  abbrev no_file : Tables
  no_file = record begun { files = without_head t.files f }

  abbrev no_system : Tables
  no_system = record no_file { nodes = without_numbered_node t.nodes head.system }

  abbrev no_name : Tables
  no_name = record no_file { nodes = without_numbered_node (without_numbered_node t.nodes head.system) head.alias }

  abbrev left : Key → Option (List ℕ)
  left k = cond (is_key (file_key f) k) None (cond (is_key pending_key k) (Some (value (pending_item op))) (records_of t k))

  file_left : (k : Key) → records_of no_file k ≡ left k
  file_left k =
      file_gone begun (without_head t.files f) (file_key f) refl refl (λ g. gone_at f g t.files r.tables.files.0) k
      ∙ ap (λ (o : Option (List ℕ)). cond (is_key (file_key f) k) None o) (operations_set t (record t.operations { pending = Some op }) pending_key (Some (value (pending_item op))) refl (operation_laws.operation_set t.operations op) k)

  system_left : (k : Key) → records_of no_system k ≡ cond (is_key (node_key head.system) k) None (left k)
  system_left k =
      nodes_set no_file (without_numbered_node t.nodes head.system) (node_key head.system) None refl refl (record_gone t.nodes (without_numbered_node t.nodes head.system) head.system (λ n. at_without t.nodes head.system n r.tables.nodes.items.0)) k
      ∙ ap (λ (o : Option (List ℕ)). cond (is_key (node_key head.system) k) None o) (file_left k)

  alias_left : (k : Key) → records_of no_name k ≡ cond (is_key (node_key head.alias) k) None (cond (is_key (node_key head.system) k) None (left k))
  alias_left k =
      nodes_set no_system (without_numbered_node (without_numbered_node t.nodes head.system) head.alias) (node_key head.alias) None refl refl (record_gone (without_numbered_node t.nodes head.system) (without_numbered_node (without_numbered_node t.nodes head.system) head.alias) head.alias
      (λ n. at_without (without_numbered_node t.nodes head.system) head.alias n (without_items t.nodes head.system r.tables.nodes.items).0)) k
      ∙ ap (λ (o : Option (List ℕ)). cond (is_key (node_key head.alias) k) None o) (system_left k)

  -- ---- the nodes that go

  abbrev is_system : ℕ → Bool
  is_system n = is_at (nat_cmp head.system) n

  abbrev is_either : ℕ → Bool
  is_either n = is_at (nat_cmp head.alias) n || is_at (nat_cmp head.system) n

  not_root : (n : ℕ) → eqb n 0 ≡ false → is_at (nat_cmp n) 0 ≡ false
  not_root n some = elim (either (is_at (nat_cmp n) 0)) [
    | inl hit ↦ absurd (true≢false (sym (eq-eqb n 0 (number_is n 0 hit)) ∙ some))
    | inr miss ↦ miss
  ]

  system_some : eqb head.system 0 ≡ false
  system_some = elim (either (eqb head.system 0)) [
    | inl zero ↦ let some = system_of_item f head item in absurd (omega (arith, some, eqb-true head.system 0 zero))
    | inr some ↦ some
  ]

  system_goes : head.alias ≡ 0 → Goes is_system
  system_goes zero = record { system = number_itself head.system; alias = inl zero; others = λ n e. inl (sym (number_is head.system n e)); root = not_root head.system system_some }

  either_of : (a b : Bool) → (a || b) ≡ true → (a ≡ true) ⊎ (b ≡ true)
  either_of true b e = inl refl
  either_of false b e = inr e

  both_go : eqb head.alias 0 ≡ false → Goes is_either
  both_go some = record {
    system = ap (λ (b : Bool). is_at (nat_cmp head.alias) head.system || b) (number_itself head.system) ∙ right_true (is_at (nat_cmp head.alias) head.system);
    alias = inr (ap (λ (b : Bool). b || is_at (nat_cmp head.system) head.alias) (number_itself head.alias));
    others = λ n e. elim (either_of (is_at (nat_cmp head.alias) n) (is_at (nat_cmp head.system) n) e) [ inl a ↦ inr (sym (number_is head.alias n a)) | inr b ↦ inl (sym (number_is head.system n b)) ];
    root = ap (λ (b : Bool). b || is_at (nat_cmp head.system) 0) (not_root head.alias some) ∙ not_root head.system system_some;
  }

  one_or_other : (a b : Bool) (o : Option Node) → cond a None (cond b None o) ≡ cond (a || b) None o
  one_or_other true b o = refl
  one_or_other false b o = refl

  at_neither : (m : ℕ) → node_at (without_numbered_node (without_numbered_node t.nodes head.system) head.alias) m ≡ cond (is_either m) None (node_at t.nodes m)
  at_neither m =
      at_without (without_numbered_node t.nodes head.system) head.alias m (without_items t.nodes head.system r.tables.nodes.items).0
      ∙ (ap (λ (o : Option Node). cond (is_at (nat_cmp head.alias) m) None o) (at_without t.nodes head.system m r.tables.nodes.items.0)
      ∙ one_or_other (is_at (nat_cmp head.alias) m) (is_at (nat_cmp head.system) m) (node_at t.nodes m))

-- ---- the plan

abbrev without : Tables → ℕ → List Numbered → Tables
without t f ns = record t { files = without_head t.files f; nodes = ns; operations = record t.operations { pending = Some (removal_of f) } }

pub removal_planned : (c : Catalogued) (f : ℕ) (head : FileHead) (put : List DirectoryRecord) (gone : List Key) → IsCatalog c → head_at c.tables.files f ≡ Some head → is_item (pending_item (removal_of f)) ≡ true
    → put ≡ item_record (pending_item (removal_of f)) ∷ [] → gone ≡ file_key f ∷ node_key head.system ∷ cond (eqb head.alias 0) [] (node_key head.alias ∷ []) → IsRemovalPlan c f put gone
removal_planned c f head put gone is there ok p g = by (eqb head.alias 0) refl where
  table : operations.IsOperationTable (record c.tables.operations { pending = Some (removal_of f) })
  table = operation_laws.operation_allowed c.tables.operations (removal_of f) ok is.rules.tables.operations

  room : HasRoom c put
  room = rw p (old_room c (item_record (pending_item (removal_of f))) is refl)

  make : (ns : List Numbered) → without_names c.tables.nodes head ≡ ns → (AreOwned (without c.tables f ns) → IsPlan c put gone (without c.tables f ns)) → (is_on_file c.tables.files c.tables.operations.pending ≡ true → AreOwned (without c.tables f ns)) → IsRemovalPlan c f put gone
  make ns same plan alone = record {
    head = head;
    file = there;
    plan = subst (λ (l : List Numbered). AreOwned (without c.tables f l) → IsPlan c put gone (without c.tables f l)) (sym same) plan;
    owned = subst (λ (l : List Numbered). is_on_file c.tables.files c.tables.operations.pending ≡ true → AreOwned (without c.tables f l)) (sym same) alone;
  }

  by : (b : Bool) → eqb head.alias 0 ≡ b → IsRemovalPlan c f put gone
  by true q =
      let ns = without_numbered_node c.tables.nodes head.system in
      let goes = system_goes c.shape c.tables f head is.rules there (eqb-true head.alias 0 q) in
      let at : (m : ℕ) → node_at ns m ≡ cond (is_at (nat_cmp head.system) m) None (node_at c.tables.nodes m) = λ m. at_without c.tables.nodes head.system m is.rules.tables.nodes.items.0 in
      let items = without_items c.tables.nodes head.system is.rules.tables.nodes.items in
      let few = gone_few (is_at (nat_cmp head.system)) c.tables.nodes in
      let part = rest_passes (is_named_back c.tables) (is_at (nat_cmp head.system)) c.tables.nodes is.rules.nodes in
      let keys : gone ≡ file_key f ∷ node_key head.system ∷ [] = g ∙ rw q refl in
      make ns (rw q refl)
      (λ owned. plan_is c _ _ _
      (record { tables = tables_kept c.shape c.tables f head is.rules there ns (λ m. is_at (nat_cmp head.system) m) goes at items few part table; records = λ k. rw (p, keys) (system_left c.shape c.tables f head is.rules there k ∙ two_go (is_key (file_key f) k) (is_key (node_key head.system) k) (cond (is_key pending_key k) (Some (value (pending_item (removal_of f)))) (records_of c.tables k))) })
      (rules_kept c.shape c.tables f head is.rules there ns (λ m. is_at (nat_cmp head.system) m) goes at items few part table owned)
      (λ es has. (c.units, has))
      (rw (p, keys) (omega arith)) (rw (p, keys) refl) room)
      (owned_then c.shape c.tables f head is.rules there ns (λ m. is_at (nat_cmp head.system) m) goes at items few part)
  by false q =
      let ns = without_numbered_node (without_numbered_node c.tables.nodes head.system) head.alias in
      let goes = both_go c.shape c.tables f head is.rules there q in
      let at = at_neither c.shape c.tables f head is.rules there in
      let items = without_items (without_numbered_node c.tables.nodes head.system) head.alias (without_items c.tables.nodes head.system is.rules.tables.nodes.items) in
      let one = gone_few (is_at (nat_cmp head.system)) c.tables.nodes in
      let two = gone_few (is_at (nat_cmp head.alias)) (without_numbered_node c.tables.nodes head.system) in
      let few : length ns ≤ length c.tables.nodes = omega (arith, one, two) in
      let part = rest_passes (is_named_back c.tables) (is_at (nat_cmp head.alias)) (without_numbered_node c.tables.nodes head.system) (rest_passes (is_named_back c.tables) (is_at (nat_cmp head.system)) c.tables.nodes is.rules.nodes) in
      let keys : gone ≡ file_key f ∷ node_key head.system ∷ node_key head.alias ∷ [] = g ∙ rw q refl in
      make ns (rw q refl)
      (λ owned. plan_is c _ _ _
      (record { tables = tables_kept c.shape c.tables f head is.rules there ns (λ m. is_either c.shape c.tables f head is.rules there m) goes at items few part table; records = λ k. rw (p, keys) (alias_left c.shape c.tables f head is.rules there k ∙ three_go (is_key (file_key f) k) (is_key (node_key head.system) k) (is_key (node_key head.alias) k) (cond (is_key pending_key k) (Some (value (pending_item (removal_of f)))) (records_of c.tables k))) })
      (rules_kept c.shape c.tables f head is.rules there ns (λ m. is_either c.shape c.tables f head is.rules there m) goes at items few part table owned)
      (λ es has. (c.units, has))
      (rw (p, keys) (omega arith)) (rw (p, keys) refl) room)
      (owned_then c.shape c.tables f head is.rules there ns (λ m. is_either c.shape c.tables f head is.rules there m) goes at items few part)
