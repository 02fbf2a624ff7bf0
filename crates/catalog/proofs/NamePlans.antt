-- Plans of a new file's name.
use Rattle.std.proofs.Common.{◌≡◌, ◌<◌, ◌≤◌, ◌+◌, ◌-◌, ◌^◌, ℕ, Bool, true, false, cond, eqb, ltb, List, [], ◌∷◌, ◌++◌, length, map, Option, Some, None, refl, sym, ap, subst, ◌∙◌, arith, inl, inr, ◌⊎◌, length-append}
use Rattle.std.specs.Prelude.{◌||◌, is_some, Err}
use Rattle.std.specs.List.{AllByRecursion}
use Rattle.std.specs.Option.{option_map, option_to_list}
use Rattle.std.specs.Ordering.{nat_cmp}
use Rattle.std.specs.BTreeMap.{is_at}
use Rattle.std.proofs.lemmas.Bool.{and_parts, eq-eqb, eqb-true, lt-ltb, true≢false}
use Rattle.std.proofs.lemmas.List.{length-map}
use Rattle.std.proofs.lemmas.List.Elements.{recursion_from_All}
use Rattle.std.proofs.Math.Nat.{min-le_right}
use Rattle.asm_group.specs.Names.{Path}
use Rattle.asm_group.specs.Refusal as r
use Rattle.asm_group.specs.Shape.{Shape}
use Rattle.asm_group.specs.declared.NodeKind.{NodeKind}
use Rattle.asm_group.specs.declared.NodeKind.TheVariants.{Directory, System, Alias}
use Rattle.asm_group.specs.declared.PendingKind.TheVariants.{Create}
use Rattle.asm_group.specs.declared.Stripe.{Stripe}
use Rattle.asm_formats.specs.Among.{IsAmong}
use Rattle.asm_formats.specs.Items.{FileHead, Item, Key, Node, Pending, Settings, file_item, is_item, node_item, pending_item, rebalance_item, settings_item}
use Rattle.asm_formats.specs.Values.{value}
use Rattle.asm_base.specs.Records.{DirectoryRecord, is_key}
use Rattle.asm_base.specs.Tables.{item_record}
use Rattle.refusal_lines.specs.Refusals.{meaning_of}
use Rattle.refusal_lines.specs.declared.refusal.Refusal.{Refusal}
use Rattle.refusal_lines.specs.declared.refusal.Refusal.TheVariants as cause
use Rattle.asm_base.proofs.Exact.{some_is}
use Rattle.plan_records.specs.asm_world.Files.{NewName, new_path, next_incarnation}
use Rattle.plan_records.specs.page_map.Changes.{last_put, value_after}
use Rattle.plan_records.specs.file_directory.Files.{NumberedFile, head_at, record_of_file, with_head}
use Rattle.plan_records.proofs.file_directory.Laws.{put_keeps_table}
use Rattle.plan_records.specs.extent_map.Extents.{Chunked}
use Rattle.plan_records.specs.alias_edits.Filing.{tree_with_file, with_nodes}
use Rattle.plan_records.specs.alias_edits.declared.editing.TreeError.{TreeError}
use Rattle.plan_records.specs.alias_edits.Edits.{IsRefusal, cause_said}
use Rattle.plan_records.specs.alias_tree.Nodes as nodes
use Rattle.plan_records.specs.alias_tree.Nodes.{Numbered, node_at, with_numbered_node}
use Rattle.plan_records.specs.alias_tree.Trees.{tree_of}
use Rattle.plan_records.proofs.alias_tree.Keeping.{at_with}
use Rattle.plan_records.proofs.alias_edits.NewNodes.{with_more}
use Rattle.plan_records.proofs.alias_tree.Readings.{number_is_some}
use Rattle.plan_records.proofs.operations_directory.ChangeLaws as operation_laws
use Rattle.plan_records.proofs.template_directory.ChangeLaws as template_laws
use Rattle.plan_records.specs.catalog_tables.Faults.{IsCatalog, file_key, settings_key}
use Rattle.plan_records.specs.NewNames.{HasParts, name_at}
use Rattle.plan_records.specs.NextSettings.{settings_next}
use Rattle.catalog.specs.NamePlans.{AreNewNodes, IsFileBeingMade, IsNamePlan, IsNameRefusal, operation_file, is_within_file, made_file, tables_with_name, new_head, system_path}
use Rattle.catalog.specs.Plans.{ArePlannedItems, IsPlan}
use Rattle.asm_placement.specs.Naming.{is_kind_directory, is_named_as, is_pending, names_back}
use Rattle.plan_records.specs.catalog_tables.Rules.{HasExtents, KeepsRules, are_within_head, blocks_used, first_wrong, has_names, is_named_back, is_owned, keeps_copies, names_file_in_tables}
use Rattle.plan_records.specs.catalog_tables.Tables.{AreTables, Catalogued, Tables, records_of}
use Rattle.plan_records.proofs.catalog_tables.NewRecords.{HasRoom, all_but_last, settings_there}
use Rattle.catalog.proofs.NumberedEntries.{passes_each, passes_where, put_all}
use Rattle.plan_records.proofs.catalog_tables.NumberedLists.{either, number_is, number_itself, put_at, put_few, there_all}
use Rattle.catalog.proofs.PlanLaws.{or_false, pending_key}
use Rattle.plan_records.proofs.catalog_tables.SetLaws.{operations_set, templates_set}
use Rattle.plan_records.proofs.catalog_tables.TableItems.{append_among, each_of, map_among}
use Rattle.catalog.proofs.TreePlans.{Stays, both_true, first_right, has_of, has_stay, head_put, named_dir, named_of, node_put, or_more, or_true}

-- ---- nodes that are put one after the other

-- a node that is there isn't among nodes that weren't
fresh_apart : (old made : List Numbered) (m : ℕ) → (node_at old m ≡ None → ⊥) → AllByRecursion (λ (x : Numbered). node_at old x.0 ≡ None) made → AllByRecursion (λ (x : Numbered). is_at (nat_cmp x.0) m ≡ false) made
fresh_apart old [] m there fresh = tt
fresh_apart old (x ∷ made) m there fresh = (
  elim (either (is_at (nat_cmp x.0) m)) [
    | inl hit ↦ absurd (there (ap (λ (k : ℕ). node_at old k) (sym (number_is x.0 m hit)) ∙ fresh.0))
    | inr miss ↦ miss
  ],
  fresh_apart old made m there fresh.1,
)

stays_there : (made old : List Numbered) (m : ℕ) → AllByRecursion (λ (x : Numbered). is_at (nat_cmp x.0) m ≡ false) made → node_at (with_nodes old made) m ≡ node_at old m
stays_there [] old m apart = refl
stays_there (x ∷ made) old m apart = stays_there made (with_numbered_node old x.0 x.1) m apart.1 ∙ (at_with old x.0 x.1 m ∙ rw apart.0 refl)

-- what stands where directories were put is one of them or was there
dir_or_old : (dirs old : List Numbered) → AllByRecursion (λ (x : Numbered). x.1.kind ≡ Directory) dirs → (m : ℕ) (y : Node) → node_at (with_nodes old dirs) m ≡ Some y → (y.kind ≡ Directory) ⊎ (node_at old m ≡ Some y)
dir_or_old [] old all m y e = inr e
dir_or_old (x ∷ dirs) old all m y e = elim (dir_or_old dirs (with_numbered_node old x.0 x.1) all.1 m y e) [
  | inl dir ↦ inl dir
  | inr put ↦ elim (either (is_at (nat_cmp x.0) m)) [
    | inl hit ↦ inl (subst (λ (z : Node). z.kind ≡ Directory) (some_is x.1 y (sym (at_with old x.0 x.1 m ∙ rw hit refl) ∙ put)) all.0)
    | inr miss ↦ inr (sym (at_with old x.0 x.1 m ∙ rw miss refl) ∙ put)
  ]
]

nodes_few : (made old : List Numbered) → length (with_nodes old made) ≤ length old + length made
nodes_few [] old = omega arith
nodes_few (x ∷ made) old =
    let more = nodes_few made (with_numbered_node old x.0 x.1) in
    let one = put_few x.0 x.1 old in
    omega (arith, more, one)

-- ---- the records

last_more : (put : List DirectoryRecord) (e : DirectoryRecord) (k : Key) (before : Option (List ℕ)) → last_put (put ++ e ∷ []) k before ≡ cond (is_key e.0 k) (Some e.1) (last_put put k before)
last_more [] e k before = refl
last_more (p ∷ put) e k before = last_more put e k (cond (is_key p.0 k) (Some p.1) before)

nodes_put : (made : List Numbered) (t : Tables) (k : Key) → records_of (record t { nodes = with_nodes t.nodes made }) k ≡ last_put (map nodes.record_of_node made) k (records_of t k)
nodes_put [] t k = refl
nodes_put (x ∷ made) t k =
    nodes_put made (record t { nodes = with_numbered_node t.nodes x.0 x.1 }) k
    ∙ ap (λ (o : Option (List ℕ)). last_put (map nodes.record_of_node made) k o) (node_put t x.0 x.1 k)

-- ---- a file that is made

-- a new head and nodes that go with the tables
pub record IsMade (s : Shape) (t : Tables) (f : ℕ) (head : FileHead) (made : List Numbered) : Type 0 where
  pub pending : (g : ℕ) → is_pending g t.operations.pending ≡ true → f ≡ g
  pub new : head_at t.files f ≡ None
  pub extents : HasExtents t s (f, head)
  pub within : first_wrong (is_within_file f head.copies) t.extents ≡ None
  pub item : is_item (file_item f head) ≡ true
  pub alias : head.alias ≡ 0
  pub table : nodes.IsNodeTable (with_nodes t.nodes made)
  pub fresh : AllByRecursion (λ (x : Numbered). node_at t.nodes x.0 ≡ None) made
  pub items : AllByRecursion (λ (x : Numbered). is_item (node_item x.0 x.1) ≡ true) made
  pub dirs : List Numbered
  pub node : Node
  pub split : made ≡ dirs ++ (head.system, node) ∷ []
  pub dirs_are : AllByRecursion (λ (x : Numbered). x.1.kind ≡ Directory) dirs
  pub kind_is : node.kind ≡ System
  pub file_is : node.file ≡ f
  pub room : length made + 1 + (blocks_used t + 2) ≤ s.dir_blocks

settings_fit : (s : Settings) → is_item (settings_item s) ≡ true → is_item (settings_item (settings_next s)) ≡ true
unfolding is_item
settings_fit s ok =
    let a = and_parts (ltb s.incarnation (2 ^ 64)) _ ok in
    let low = min-le_right (s.incarnation + 1) (2 ^ 64 - 1) in
    let small : next_incarnation s.incarnation < 2 ^ 64 = omega (arith, low) in
    both_true (ltb (next_incarnation s.incarnation) (2 ^ 64)) _ (lt-ltb (next_incarnation s.incarnation) (2 ^ 64) small) a.1

pub next_fits : (c : Catalogued) (now next : Settings) → IsCatalog c → now ≡ c.tables.templates.settings → next ≡ settings_next now → is_item (settings_item next) ≡ true
next_fits c now next is same after = subst (λ (x : Settings). is_item (settings_item x) ≡ true) (sym (after ∙ ap settings_next same)) (settings_fit c.tables.templates.settings is.rules.tables.templates.settings)

module _ (s : Shape) (t : Tables) (f : ℕ) (head : FileHead) (made : List Numbered) (r : KeepsRules s t) (is : IsMade s t f head made) where
  abbrev u : Tables
  u = tables_with_name t f head made

  -- ---- what stands where

  head_here : (g : ℕ) → is_at (nat_cmp f) g ≡ true → head_at u.files g ≡ Some head
  head_here g hit = put_at f head t.files g ∙ rw hit refl

  head_else : (g : ℕ) → is_at (nat_cmp f) g ≡ false → head_at u.files g ≡ head_at t.files g
  head_else g miss = put_at f head t.files g ∙ rw miss refl

  none_was : (g : ℕ) → is_at (nat_cmp f) g ≡ true → head_at t.files g ≡ None
  none_was g hit = ap (λ (n : ℕ). head_at t.files n) (sym (number_is f g hit)) ∙ is.new

  -- the name is put last
  last : u.nodes ≡ with_numbered_node (with_nodes t.nodes is.dirs) head.system is.node
  last = ap (λ (ns : List Numbered). with_nodes t.nodes ns) is.split ∙ with_more t.nodes is.dirs head.system is.node

  at_number : (m : ℕ) → node_at u.nodes m ≡ cond (is_at (nat_cmp head.system) m) (Some is.node) (node_at (with_nodes t.nodes is.dirs) m)
  at_number m = ap (λ (ns : List Numbered). node_at ns m) last ∙ at_with (with_nodes t.nodes is.dirs) head.system is.node m

  at_name : node_at u.nodes head.system ≡ Some is.node
  at_name = at_number head.system ∙ rw (number_itself head.system) refl

  -- ---- names

  -- a node that was there names what it named
  old_named : (m : ℕ) (y : Node) → node_at t.nodes m ≡ Some y → is_named_back u (m, y) ≡ true
  old_named m y at = elim (either (is_at (nat_cmp f) y.file)) [
    | inr miss ↦ ap (λ (o : Option FileHead). is_kind_directory y.kind || names_back y.kind m o) (head_else y.file miss) ∙ named_of s t r m y at
    | inl hit ↦ named_dir u m y (loose y.kind (ap (λ (o : Option FileHead). is_kind_directory y.kind || names_back y.kind m o) (sym (none_was y.file hit)) ∙ named_of s t r m y at))
  ] where
    loose : (kind : NodeKind) → (is_kind_directory kind || names_back kind m None) ≡ true → kind ≡ Directory
    loose Directory e = refl
    loose System e = absurd (true≢false (sym e))
    loose Alias e = absurd (true≢false (sym e))

  now_named : (m : ℕ) (y : Node) → node_at u.nodes m ≡ Some y → is_named_back u (m, y) ≡ true
  now_named m y e = elim (either (is_at (nat_cmp head.system) m)) [
    | inl hit ↦
        let same : is.node ≡ y = some_is is.node y (sym (at_number m ∙ rw hit refl) ∙ e) in
        subst (λ (z : Node). is_named_back u (m, z) ≡ true) same
        (rw (is.kind_is, is.file_is) (rw (head_here f (number_itself f)) (eq-eqb head.system m (number_is head.system m hit))))
    | inr miss ↦ elim (dir_or_old is.dirs t.nodes is.dirs_are m y (sym (at_number m ∙ rw miss refl) ∙ e)) [
      | inl dir ↦ named_dir u m y dir
      | inr old ↦ old_named m y old
    ]
  ]

  stays : (kind : NodeKind) (g : ℕ) → Stays t u kind g
  stays kind g m e = ap (λ (o : Option Node). is_named_as kind g o) (stays_there made t.nodes m (fresh_apart t.nodes made m there is.fresh)) ∙ e where
    there : node_at t.nodes m ≡ None → ⊥
    there none = true≢false (sym e ∙ ap (λ (o : Option Node). is_named_as kind g o) none)

  own_names : has_names u (f, head) ≡ true
  own_names = both_true (names_file_in_tables u f System head.system) (names_file_in_tables u f Alias head.alias) system (rw is.alias refl) where
    system : names_file_in_tables u f System head.system ≡ true
    system = or_more (eqb head.system 0) true (is_named_as System f (node_at u.nodes head.system)) (λ i. rw at_name (rw is.kind_is (eq-eqb is.node.file f is.file_is))) (or_true (eqb head.system 0))

  has : (g : ℕ) (h : FileHead) → head_at u.files g ≡ Some h → has_names u (g, h) ≡ true
  has g h e = elim (either (is_at (nat_cmp f) g)) [
    | inr miss ↦ has_stay t u g h (stays System g) (stays Alias g) (has_of s t r g h (sym (head_else g miss) ∙ e))
    | inl hit ↦
        let same : head ≡ h = some_is head h (sym (head_here g hit) ∙ e) in
        subst (λ (k : ℕ). has_names u (k, h) ≡ true) (number_is f g hit) (subst (λ (z : FileHead). has_names u (f, z) ≡ true) same own_names)
  ]

  -- ---- chunks

  owned : first_wrong (is_owned u) t.extents ≡ None
  owned = passes_where (is_owned t) (is_owned u) t.extents keeps r.owned where
    some_or : (a b : Bool) → (b ≡ true → ⊥) → (a || b) ≡ true → (a || false) ≡ true
    some_or true b other e = refl
    some_or false b other e = absurd (other e)

    keeps : (x : Chunked) → IsAmong t.extents x → is_owned t x ≡ true → is_owned u x ≡ true
    keeps x m ok = elim (either (is_at (nat_cmp f) x.0.0)) [
      | inl hit ↦ rw (head_here x.0.0 hit) refl
      | inr miss ↦
          rw (head_else x.0.0 miss) (some_or (is_some (head_at t.files x.0.0)) (is_pending x.0.0 t.operations.pending)
          (λ p. true≢false (sym (subst (λ (g : ℕ). is_at (nat_cmp f) g ≡ true) (is.pending x.0.0 p) (number_itself f)) ∙ miss)) ok)
    ]

  copies : first_wrong (keeps_copies u) t.extents ≡ None
  copies = passes_where (is_within_file f head.copies) (keeps_copies u) t.extents keeps is.within where
    keeps : (x : Chunked) → IsAmong t.extents x → is_within_file f head.copies x ≡ true → keeps_copies u x ≡ true
    keeps x m ok = elim (either (is_at (nat_cmp f) x.0.0)) [
      | inl hit ↦
          let own : eqb x.0.0 f ≡ true = eq-eqb x.0.0 f (sym (number_is f x.0.0 hit)) in
          ap (λ (o : Option FileHead). are_within_head o x.1) (head_here x.0.0 hit) ∙ rw own at ok
      | inr miss ↦ ap (λ (o : Option FileHead). are_within_head o x.1) (head_else x.0.0 miss) ∙ passes_each (keeps_copies t) t.extents r.redundancy x m
    ]

  -- ---- all of it

  tables : AreTables u
  tables = record {
    files = put_keeps_table t.files f head is.item r.tables.files;
    extents = r.tables.extents;
    nodes = is.table;
    templates = record { templates = r.tables.templates.templates; settings = settings_fit t.templates.settings r.tables.templates.settings };
    stale = r.tables.stale;
    operations = operation_laws.no_pending t.operations u.operations refl r.tables.operations;
    disks = r.tables.disks;
  }

  pub rules_after : KeepsRules s u
  rules_after = record {
    tables = tables;
    marked = r.marked;
    chunks = r.chunks;
    owned = owned;
    redundancy = copies;
    apart = r.apart;
    stale = r.stale;
    nodes = first_right (is_named_back u) u.nodes (there_all (λ (x : Numbered). is_named_back u x ≡ true) u.nodes is.table.items.0 now_named);
    names = first_right (has_names u) u.files (there_all (λ (x : NumberedFile). has_names u x ≡ true) u.files tables.files.0 has);
    extents = put_all (HasExtents u s) t.files f head r.extents is.extents;
    room = (let one = put_few f head t.files in let more = nodes_few made t.nodes in let room = is.room in omega arith);
  }

  -- ---- the records

  abbrev with_file : Tables
  with_file = record t { files = with_head t.files f head }

  abbrev with_names : Tables
  with_names = record with_file { nodes = with_nodes t.nodes made }

  abbrev with_next : Tables
  with_next = record with_names { templates = record t.templates { settings = settings_next t.templates.settings } }

  abbrev next_value : List ℕ
  next_value = value (settings_item (settings_next t.templates.settings))

  abbrev entries : List DirectoryRecord
  entries = record_of_file (f, head) ∷ (map nodes.record_of_node made ++ item_record (settings_item (settings_next t.templates.settings)) ∷ [])

  pub records_after : (k : Key) → records_of u k ≡ value_after entries (pending_key ∷ []) k (records_of t k)
  records_after k =
      operations_set with_next u.operations pending_key None refl (operation_laws.pending_gone t.operations u.operations pending_key refl refl refl refl) k
      ∙ (ap (λ (o : Option (List ℕ)). cond (is_key pending_key k) None o) puts
      ∙ ap (λ (b : Bool). cond b None (last_put entries k (records_of t k))) (or_false (is_key pending_key k))) where
        puts : records_of with_next k ≡ last_put entries k (records_of t k)
        puts =
            templates_set with_names with_next.templates settings_key (Some next_value) refl (template_laws.settings_set t.templates (settings_next t.templates.settings)) k
            ∙ (ap (λ (o : Option (List ℕ)). cond (is_key settings_key k) (Some next_value) o) (nodes_put made with_file k ∙ ap (λ (o : Option (List ℕ)). last_put (map nodes.record_of_node made) k o) (head_put t f head k))
            ∙ sym (last_more (map nodes.record_of_node made) (item_record (settings_item (settings_next t.templates.settings))) k (cond (is_key (file_key f) k) (Some (value (file_item f head))) (records_of t k))))

-- ---- the plan

puts_items : (f : ℕ) (head : FileHead) (made : List Numbered) (s : Settings) → is_item (file_item f head) ≡ true → AllByRecursion (λ (x : Numbered). is_item (node_item x.0 x.1) ≡ true) made → is_item (settings_item s) ≡ true
    → ArePlannedItems (record_of_file (f, head) ∷ (map nodes.record_of_node made ++ item_record (settings_item (settings_next s)) ∷ []))
puts_items f head made s file_ok nodes_ok settings_ok e among = elim among [
  | inl same ↦ (file_item f head, record { is = file_ok; key = ap (λ (y : DirectoryRecord). y.0) (sym same); value = ap (λ (y : DirectoryRecord). y.1) (sym same) })
  | inr later ↦ elim (append_among (map nodes.record_of_node made) (item_record (settings_item (settings_next s)) ∷ []) e later) [
    | inl node ↦
        let x = map_among nodes.record_of_node made e node in
        (node_item x.0.0 x.0.1, record { is = each_of (λ (y : Numbered). is_item (node_item y.0 y.1) ≡ true) made x.0 nodes_ok x.1; key = ap (λ (y : DirectoryRecord). y.0) (sym x.2); value = ap (λ (y : DirectoryRecord). y.1) (sym x.2) })
    | inr last ↦ elim last [
      | inl same ↦ (settings_item (settings_next s), record { is = settings_fit s settings_ok; key = ap (λ (y : DirectoryRecord). y.0) (sym same); value = ap (λ (y : DirectoryRecord). y.1) (sym same) })
      | inr none ↦ absurd none
    ]
  ]
]

pub made_planned : (c : Catalogued) (f : ℕ) (head : FileHead) (made : List Numbered) (put : List DirectoryRecord) (gone : List Key) → IsCatalog c → IsMade c.shape c.tables f head made → length made ≤ 3
    → put ≡ record_of_file (f, head) ∷ (map nodes.record_of_node made ++ item_record (settings_item (settings_next c.tables.templates.settings)) ∷ []) → gone ≡ pending_key ∷ []
    → IsPlan c put gone (tables_with_name c.tables f head made) × (length put ≤ 5)
made_planned c f head made put gone is new few p g = (
  record {
    after = record { tables = tables c.shape c.tables f head made is.rules new; records = λ k. rw (p, g) (records_after c.shape c.tables f head made is.rules new k) };
    rules = rules_after c.shape c.tables f head made is.rules new;
    units = λ es has. (c.units, has);
    few = (let one : length gone ≡ 1 = ap (λ (ks : List Key). length ks) g in omega (arith, five, one));
    items = subst ArePlannedItems (sym p) (puts_items f head made c.tables.templates.settings new.item new.items is.rules.tables.templates.settings);
    room = subst (HasRoom c) (sym p) free;
  },
  five,
) where
  last : DirectoryRecord
  last = item_record (settings_item (settings_next c.tables.templates.settings))

  free : HasRoom c (record_of_file (f, head) ∷ (map nodes.record_of_node made ++ last ∷ []))
  free =
      let room = new.room in
      all_but_last c (record_of_file (f, head)) (map nodes.record_of_node made) last (omega (arith, length-map made nodes.record_of_node, room)) (settings_there c.tables)

  five : length put ≤ 5
  five =
      let all : length put ≡ 1 + (length (map nodes.record_of_node made) + 1) = ap (λ (es : List DirectoryRecord). length es) p ∙ omega (arith, length-append (map nodes.record_of_node made) (item_record (settings_item (settings_next c.tables.templates.settings)) ∷ [])) in
      omega (arith, all, length-map made nodes.record_of_node, few)

-- ---- the file of the pending operation

last_of : {X : Type 0} (P : X → Type 0) (xs : List X) (x : X) → AllByRecursion P (xs ++ x ∷ []) → P x
last_of P [] x all = all.0
last_of P (y ∷ xs) x all = last_of P xs x all.1

module _ (c : Catalogued) (name : NewName) (size copies : ℕ) (stripe : Stripe) (made : List Numbered) (is : IsCatalog c) (created : IsFileBeingMade c size copies stripe) (parts : HasParts name)
    (nodes_are : AreNewNodes c.tables.nodes made (system_path c.tables name) (made_file c.tables)) (room : length made + 1 + (blocks_used c.tables + 2) ≤ c.shape.dir_blocks) (small : size < 2 ^ 64) where
  abbrev t : Tables
  t = c.tables

  file_is : made_file t ≡ created.file
  file_is = ap operation_file created.pending

  abbrev new : FileHead
  new = new_head t name size copies stripe nodes_are.filing.number

  system_item : is_item (node_item nodes_are.filing.number nodes_are.filing.node) ≡ true
  system_item =
      last_of (λ (x : Numbered). is_item (node_item x.0 x.1) ≡ true) nodes_are.filing.dirs (nodes_are.filing.number, nodes_are.filing.node)
      (subst (λ (ns : List Numbered). AllByRecursion (λ (x : Numbered). is_item (node_item x.0 x.1) ≡ true) ns) nodes_are.filing.split (recursion_from_All (λ (x : Numbered). is_item (node_item x.0 x.1) ≡ true) made nodes_are.items))

  op_item : is_item (pending_item (record { kind = Create; file = created.file; kept = created.kept })) ≡ true
  op_item =
      last_of (λ (i : Item). is_item i ≡ true) (option_to_list (option_map rebalance_item t.operations.rebalance)) (pending_item (record { kind = Create; file = created.file; kept = created.kept }))
      (subst (λ (o : Option Pending). AllByRecursion (λ (i : Item). is_item i ≡ true) (option_to_list (option_map rebalance_item t.operations.rebalance) ++ option_to_list (option_map pending_item o))) created.pending is.rules.tables.operations)

  file_small : ltb (made_file t) (2 ^ 32) ≡ true
  unfolding is_item
  file_small = ap (λ (f : ℕ). ltb f (2 ^ 32)) file_is ∙ (and_parts (ltb created.file (2 ^ 32)) (ltb created.kept (2 ^ 64)) op_item).0

  head_item : is_item (file_item (made_file t) new) ≡ true
  unfolding is_item
  head_item =
      let system = number_is_some nodes_are.filing.number nodes_are.filing.node system_item in
      let incarnation = (and_parts (ltb t.templates.settings.incarnation (2 ^ 64)) _ is.rules.tables.templates.settings).0 in
      rw (file_small, created.redundancy, parts.type_name, lt-ltb size (2 ^ 64) small, incarnation, lt-ltb 0 nodes_are.filing.number system.0, lt-ltb nodes_are.filing.number (2 ^ 32) system.1) refl

  is_made : IsMade c.shape t (made_file t) new made
  is_made = record {
    pending = pending;
    new = ap (λ (f : ℕ). head_at t.files f) file_is ∙ created.new;
    extents = subst (λ (f : ℕ). HasExtents t c.shape (f, new)) (sym file_is) created.extents;
    within = subst (λ (f : ℕ). first_wrong (is_within_file f copies) t.extents ≡ None) (sym file_is) created.within;
    item = head_item;
    alias = refl;
    table = nodes_are.table;
    fresh = recursion_from_All (λ (x : Numbered). node_at t.nodes x.0 ≡ None) made nodes_are.fresh;
    items = recursion_from_All (λ (x : Numbered). is_item (node_item x.0 x.1) ≡ true) made nodes_are.items;
    dirs = nodes_are.filing.dirs;
    node = nodes_are.filing.node;
    split = nodes_are.filing.split;
    dirs_are = recursion_from_All (λ (x : Numbered). x.1.kind ≡ Directory) nodes_are.filing.dirs nodes_are.filing.dirs_are;
    kind_is = nodes_are.filing.kind_is;
    file_is = nodes_are.filing.file_is;
    room = room;
  } where
    pending : (g : ℕ) → is_pending g t.operations.pending ≡ true → made_file t ≡ g
    pending g e = by t.operations.pending e where
      by : (o : Option Pending) → is_pending g o ≡ true → operation_file o ≡ g
      by None q = absurd (true≢false (sym q))
      by (Some op) q = eqb-true op.file g q

  -- the same, by what the code reads
  module _ (f system : ℕ) (head : FileHead) (file : f ≡ made_file t) (head_of : head ≡ new_head t name size copies stripe system) (last_is : (dirs : List Numbered) (number : ℕ) (node : Node) → made ≡ dirs ++ (number, node) ∷ [] → system ≡ number) where
    head_is : head ≡ new
    head_is = head_of ∙ ap (λ (n : ℕ). new_head t name size copies stripe n) (last_is nodes_are.filing.dirs nodes_are.filing.number nodes_are.filing.node nodes_are.filing.split)

    pub head_fits : is_item (file_item f head) ≡ true
    head_fits = subst (λ (n : ℕ). is_item (file_item n head) ≡ true) (sym file) (subst (λ (h : FileHead). is_item (file_item (made_file t) h) ≡ true) (sym head_is) head_item)

    pub name_planned : (path : Path) (put : List DirectoryRecord) (before gone : List Key) → name_at path ≡ Some name → put ≡ record_of_file (f, head) ∷ (map nodes.record_of_node made ++ item_record (settings_item (settings_next t.templates.settings)) ∷ []) → before ≡ []
        → gone ≡ before ++ pending_key ∷ [] → IsNamePlan c path size copies stripe put gone
    name_planned path put before gone at p none g =
        let written : put ≡ record_of_file (made_file t, new) ∷ (map nodes.record_of_node made ++ item_record (settings_item (settings_next t.templates.settings)) ∷ []) =
        p ∙ ap (λ (e : DirectoryRecord). e ∷ (map nodes.record_of_node made ++ item_record (settings_item (settings_next t.templates.settings)) ∷ [])) (ap (λ (n : ℕ). record_of_file (n, head)) file ∙ ap (λ (h : FileHead). record_of_file (made_file t, h)) head_is) in
        let goes : gone ≡ pending_key ∷ [] = g ∙ ap (λ (ks : List Key). ks ++ pending_key ∷ []) none in
        let planned = made_planned c (made_file t) new made put gone is is_made nodes_are.few written goes in
        record {
          name = name;
          name_is = at;
          made = made;
          filed = nodes_are.filed;
          filing = nodes_are.filing;
          plan = planned.0;
          puts = planned.1;
          goes = ap (λ (ks : List Key). length ks) goes;
        }

-- ---- the nodes of the name

-- the path of the system name, by what the code reads
pub path_is : (t : Tables) (name : NewName) (path : Path) (f incarnation : ℕ) (s : Settings) → path ≡ new_path name f incarnation → f ≡ made_file t → s ≡ t.templates.settings → s.incarnation ≡ incarnation → path ≡ system_path t name
path_is t name path f incarnation s is file settings same =
    is ∙ (ap (λ (n : ℕ). new_path name n incarnation) file ∙ ap (λ (i : ℕ). new_path name (made_file t) i) (sym same ∙ ap (λ (x : Settings). x.incarnation) settings))

-- why the tree can't have it
abbrev pub IsTreeCause : Tables → Path → Refusal → Type 0
IsTreeCause t path e = (meaning_of (λ n. []) e ≡ r.NoMemory) ⊎ (tree_with_file (tree_of t.nodes) path (made_file t) ≡ Err (meaning_of (λ n. []) e))

pub tree_refuses : (t : Tables) (path at : Path) (f : ℕ) (error : TreeError) (e : Refusal) → path ≡ at → f ≡ made_file t → meaning_of (λ n. []) e ≡ cause_said error → IsRefusal (tree_with_file (tree_of t.nodes) path f) error → IsTreeCause t at e
tree_refuses t path at f error e same number meant (inl memory) = inl (meant ∙ memory)
tree_refuses t path at f error e same number meant (inr why) =
    inr (ap (λ (p : Path). tree_with_file (tree_of t.nodes) p (made_file t)) (sym same) ∙ (ap (λ (n : ℕ). tree_with_file (tree_of t.nodes) path n) (sym number) ∙ (why ∙ ap (λ (w : r.Refusal). Err w) (sym meant))))

pub want_of_memory : (e : Refusal) → e ≡ cause.NoMemory → meaning_of (λ n. []) e ≡ r.NoMemory
unfolding meaning_of
want_of_memory e same = rw same refl

-- ---- refusals

pub no_path : (c : Catalogued) (path : Path) → name_at path ≡ None → IsNameRefusal c path cause.NoTemplate
unfolding meaning_of
no_path c path none = inr (inl (rw none refl))

pub name_refused : (c : Catalogued) (path : Path) (name : NewName) (e : Refusal) → name_at path ≡ Some name → IsTreeCause c.tables (system_path c.tables name) e → IsNameRefusal c path e
name_refused c path name e at (inl memory) = inl memory
name_refused c path name e at (inr why) = inr (inl (rw at why))

pub no_memory : (c : Catalogued) (path : Path) (e : Refusal) → e ≡ cause.NoMemory → IsNameRefusal c path e
no_memory c path e same = inl (want_of_memory e same)

pub lacks_room : (c : Catalogued) (path : Path) (name : NewName) (made : List Numbered) (need free : ℕ) → name_at path ≡ Some name → AreNewNodes c.tables.nodes made (system_path c.tables name) (made_file c.tables) → need ≡ length made + 1
    → free + blocks_used c.tables + 2 ≡ c.shape.dir_blocks → free < need → IsNameRefusal c path (cause.DirectoryFull need free)
lacks_room c path name made need free at are need_is free_is few =
    inr (inr (need, free, refl, record { name = name; name_is = at; filed = (tree_of (with_nodes c.tables.nodes made), are.filed); need_is = need_is ∙ ap (λ (n : ℕ). n + 1) are.count; free_is = free_is; few = few }))
