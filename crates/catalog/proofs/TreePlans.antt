-- Plans of edits of the tree: nodes that are put or go, and the aliases of heads.
use Rattle.std.proofs.Common.{◌≡◌, ◌<◌, ◌≤◌, ◌+◌, ◌^◌, ℕ, Bool, true, false, cond, eqb, ltb, List, [], ◌∷◌, ◌++◌, length, Option, Some, None, refl, sym, ap, subst, ◌∙◌, arith, inl, inr}
use Rattle.std.specs.Prelude.{◌||◌, ◌&&◌, is_some, ⊤}
use Rattle.std.specs.BTreeMap.{is_at}
use Rattle.std.specs.List.{AllByRecursion}
use Rattle.std.specs.Ordering.{nat_cmp}
use Rattle.std.proofs.lemmas.Bool.{and_parts, eq-eqb, eqb-true, lt-ltb, ne_eqb, true≢false}
use Rattle.std.proofs.lemmas.Option.{none-some}
use Rattle.asm_group.specs.Names.{is_part}
use Rattle.asm_group.specs.Shape.{Shape}
use Rattle.asm_group.specs.declared.NodeKind.{NodeKind}
use Rattle.asm_group.specs.declared.NodeKind.TheVariants.{Directory, System, Alias}
use Rattle.asm_formats.specs.Items.{FileHead, Key, Node, file_item, is_item, is_redundancy, node_item}
use Rattle.asm_formats.specs.Values.{value}
use Rattle.asm_base.specs.Records.{DirectoryRecord, is_key}
use Rattle.asm_base.specs.Tables.{item_record}
use Rattle.asm_base.proofs.Exact.{some_is}
use Rattle.plan_records.specs.extent_map.Extents.{Chunked}
use Rattle.plan_records.specs.file_directory.Files as files
use Rattle.plan_records.specs.file_directory.Changing as changing
use Rattle.plan_records.specs.file_directory.Files.{NumberedFile, head_at, with_head}
use Rattle.plan_records.proofs.file_directory.Laws.{put_keeps_table}
use Rattle.plan_records.specs.alias_tree.Nodes as nodes
use Rattle.plan_records.specs.alias_tree.Opening as opening
use Rattle.plan_records.specs.alias_tree.Nodes.{Numbered, node_at, with_numbered_node, without_numbered_node}
use Rattle.plan_records.proofs.alias_tree.IndexLaws.{item_at}
use Rattle.plan_records.proofs.alias_tree.Keeping.{at_with, at_without}
use Rattle.plan_records.specs.catalog_tables.Changing.{IsAfter, Sets}
use Rattle.plan_records.specs.catalog_tables.Faults.{IsCatalog, file_key, node_key}
use Rattle.catalog.specs.Plans.{IsPlan}
use Rattle.asm_placement.specs.Naming.{is_kind_directory, is_named_as, is_pending, kind_eq, names_back}
use Rattle.plan_records.specs.catalog_tables.Rules.{HasExtents, KeepsRules, are_within_head, blocks_used, first_wrong, has_names, is_named_back, is_owned, keeps_copies, names_file_in_tables}
use Rattle.plan_records.specs.catalog_tables.Tables.{AreTables, Catalogued, Tables, records_of}
use Rattle.plan_records.specs.Heads.{head_with_alias}
use Rattle.catalog.specs.TreePlans.{HasNoAlias, IsNewAlias, KeepsName, aliased_head, heads_without}
use Rattle.plan_records.proofs.catalog_tables.NumberedLists.{all_there, either, gone_few, new_longer, number_is, number_itself, put_at, there_all, there_as_long}
use Rattle.catalog.proofs.PlanLaws.{after_gone, after_put}
use Rattle.plan_records.proofs.catalog_tables.SetLaws.{files_set, nodes_set}
use Rattle.plan_records.proofs.catalog_tables.NewRecords.{first_room, head_there, no_node, nothing_room, old_room, one_room}
use Rattle.catalog.proofs.PutItems.{plan_is}

-- ---- entries that are right

module _ {K T : Type 0} where
  pub first_right : (right : K × T → Bool) (xs : List (K × T)) → AllByRecursion (λ x. right x ≡ true) xs → first_wrong right xs ≡ None
  first_right right [] all = refl
  first_right right (x ∷ xs) all = rw all.0 (first_right right xs all.1)

  all_right : (right : K × T → Bool) (xs : List (K × T)) → first_wrong right xs ≡ None → AllByRecursion (λ x. right x ≡ true) xs
  all_right right [] e = tt
  all_right right (x ∷ xs) e = by (right x) refl (all_right right xs) where
    by : (b : Bool) → right x ≡ b → (first_wrong right xs ≡ None → AllByRecursion (λ y. right y ≡ true) xs) → AllByRecursion (λ y. right y ≡ true) (x ∷ xs)
    by true hit more = (hit, more (rw hit at e))
    by false miss more = absurd (none-some x.0 (sym (rw miss at e)))

  -- what is right by one test is by an equal one
  same_right : (a b : K × T → Bool) (xs : List (K × T)) → ((x : K × T) → b x ≡ a x) → first_wrong a xs ≡ None → first_wrong b xs ≡ None
  same_right a b xs same e = first_right b xs (each xs (all_right a xs e)) where
    each : (xs : List (K × T)) → AllByRecursion (λ x. a x ≡ true) xs → AllByRecursion (λ x. b x ≡ true) xs
    each [] all = tt
    each (x ∷ xs) all = (same x ∙ all.0, each xs all.1)

-- ---- heads that differ in their aliases

abbrev IsLike : Option FileHead → Option FileHead → Type 0
IsLike None None = ⊤
IsLike None (Some b) = ⊥
IsLike (Some a) None = ⊥
IsLike (Some a) (Some b) = b ≡ head_with_alias a b.alias

abbrev AreLike : List NumberedFile → List NumberedFile → Type 0
AreLike old new = (f : ℕ) → IsLike (head_at old f) (head_at new f)

like_itself : (o : Option FileHead) → IsLike o o
like_itself None = tt
like_itself (Some a) = refl

like_there : (a b : Option FileHead) → IsLike a b → is_some b ≡ is_some a
like_there None None l = refl
like_there None (Some b) l = absurd l
like_there (Some a) None l = absurd l
like_there (Some a) (Some b) l = refl

like_within : (a b : Option FileHead) → IsLike a b → (x : Chunked) → are_within_head b x.1 ≡ are_within_head a x.1
like_within None None l x = refl
like_within None (Some b) l x = absurd l
like_within (Some a) None l x = absurd l
like_within (Some a) (Some b) l x = ap (λ (h : FileHead). are_within_head (Some h) x.1) l

-- ---- the rules after

abbrev after : Tables → List Numbered → List NumberedFile → Tables
after t new heads = record t { nodes = new; files = heads }

module _ (s : Shape) (t : Tables) (new : List Numbered) (heads : List NumberedFile) (r : KeepsRules s t) (like : AreLike t.files heads) where
  abbrev u : Tables
  u = after t new heads

  extents_stay : files.IsFileTable heads → AllByRecursion (HasExtents u s) heads
  extents_stay table = there_all (HasExtents u s) heads table.0 each where
    each : (f : ℕ) (h : FileHead) → head_at heads f ≡ Some h → HasExtents u s (f, h)
    each f h at = by (head_at t.files f) refl (subst (λ (o : Option FileHead). IsLike (head_at t.files f) o) at (like f)) where
      by : (o : Option FileHead) → head_at t.files f ≡ o → IsLike o (Some h) → HasExtents u s (f, h)
      by None was l = absurd l
      by (Some a) was l =
          let has : HasExtents t s (f, a) = all_there (HasExtents t s) t.files r.extents f a was in
          subst (λ (x : FileHead). HasExtents u s (f, x)) (sym l) (λ i due. has i due)

  after_rules : AreTables u → ((n : ℕ) (x : Node) → node_at new n ≡ Some x → is_named_back u (n, x) ≡ true) → ((f : ℕ) (h : FileHead) → head_at heads f ≡ Some h → has_names u (f, h) ≡ true)
      → blocks_used u + 2 ≤ s.dir_blocks → KeepsRules s u
  after_rules tables named names room = record {
    tables = tables;
    marked = r.marked;
    chunks = r.chunks;
    owned = same_right (is_owned t) (is_owned u) t.extents (λ (x : Chunked). ap (λ (b : Bool). b || is_pending x.0.0 t.operations.pending) (like_there (head_at t.files x.0.0) (head_at heads x.0.0) (like x.0.0))) r.owned;
    redundancy = same_right (keeps_copies t) (keeps_copies u) t.extents (λ (x : Chunked). like_within (head_at t.files x.0.0) (head_at heads x.0.0) (like x.0.0) x) r.redundancy;
    apart = r.apart;
    stale = r.stale;
    nodes = first_right (is_named_back u) new (there_all (λ (x : Numbered). is_named_back u x ≡ true) new tables.nodes.items.0 named);
    names = first_right (has_names u) heads (there_all (λ (x : NumberedFile). has_names u x ≡ true) heads tables.files.0 names);
    extents = extents_stay tables.files;
    room = room;
  }

-- ---- one record, and then another

after_two : (t mid u : Tables) (a b : DirectoryRecord) → AreTables u → Sets t mid a.0 (Some a.1) → Sets mid u b.0 (Some b.1) → IsAfter t (a ∷ b ∷ []) [] u
after_two t mid u a b are one two = record {
  tables = are;
  records = λ k. two k ∙ ap (λ (o : Option (List ℕ)). cond (is_key b.0 k) (Some b.1) o) (one k);
}

pub or_true : (b : Bool) → (b || true) ≡ true
or_true true = refl
or_true false = refl

or_false : (b : Bool) → b ≡ (b || false)
or_false true = refl
or_false false = refl

after_put_gone : (t mid u : Tables) (a : DirectoryRecord) (key : Key) → AreTables u → Sets t mid a.0 (Some a.1) → Sets mid u key None → IsAfter t (a ∷ []) (key ∷ []) u
after_put_gone t mid u a key are one two = record {
  tables = are;
  records = λ k. two k ∙ (ap (λ (o : Option (List ℕ)). cond (is_key key k) None o) (one k)
      ∙ ap (λ (b : Bool). cond b None (cond (is_key a.0 k) (Some a.1) (records_of t k))) (or_false (is_key key k)));
}

-- ---- what stands at each number then

pub node_put : (t : Tables) (n : ℕ) (x : Node) → Sets t (record t { nodes = with_numbered_node t.nodes n x }) (node_key n) (Some (value (node_item n x)))
node_put t n x = nodes_set t (with_numbered_node t.nodes n x) (node_key n) (Some (value (node_item n x))) refl refl set where
  set : (m : ℕ) → opening.node_value_at (with_numbered_node t.nodes n x) m ≡ cond (is_at (nat_cmp n) m) (Some (value (node_item n x))) (opening.node_value_at t.nodes m)
  set m = elim (either (is_at (nat_cmp n) m)) [
    | inl hit ↦
        let here : node_at (with_numbered_node t.nodes n x) n ≡ Some x = at_with t.nodes n x n ∙ rw (number_itself n) refl in
        rw hit (subst (λ (k : ℕ). opening.node_value_at (with_numbered_node t.nodes n x) k ≡ Some (value (node_item n x))) (number_is n m hit) (rw here refl))
    | inr miss ↦
        let there : node_at (with_numbered_node t.nodes n x) m ≡ node_at t.nodes m = at_with t.nodes n x m ∙ rw miss refl in
        rw (miss, there) refl
  ]

node_gone : (t : Tables) (n : ℕ) → AreTables t → Sets t (record t { nodes = without_numbered_node t.nodes n }) (node_key n) None
node_gone t n a = nodes_set t (without_numbered_node t.nodes n) (node_key n) None refl refl set where
  set : (m : ℕ) → opening.node_value_at (without_numbered_node t.nodes n) m ≡ cond (is_at (nat_cmp n) m) None (opening.node_value_at t.nodes m)
  set m = elim (either (is_at (nat_cmp n) m)) [
    | inl hit ↦ let none : node_at (without_numbered_node t.nodes n) m ≡ None = at_without t.nodes n m a.nodes.items.0 ∙ rw hit refl in rw (hit, none) refl
    | inr miss ↦ let there : node_at (without_numbered_node t.nodes n) m ≡ node_at t.nodes m = at_without t.nodes n m a.nodes.items.0 ∙ rw miss refl in rw (miss, there) refl
  ]

pub head_put : (t : Tables) (f : ℕ) (h : FileHead) → Sets t (record t { files = with_head t.files f h }) (file_key f) (Some (value (file_item f h)))
head_put t f h = files_set t (with_head t.files f h) (file_key f) (Some (value (file_item f h))) refl refl set where
  set : (g : ℕ) → changing.file_value_at (with_head t.files f h) g ≡ cond (is_at (nat_cmp f) g) (Some (value (file_item f h))) (changing.file_value_at t.files g)
  set g = elim (either (is_at (nat_cmp f) g)) [
    | inl hit ↦
        let here : head_at (with_head t.files f h) f ≡ Some h = put_at f h t.files f ∙ rw (number_itself f) refl in
        rw hit (subst (λ (k : ℕ). changing.file_value_at (with_head t.files f h) k ≡ Some (value (file_item f h))) (number_is f g hit) (rw here refl))
    | inr miss ↦
        let there : head_at (with_head t.files f h) g ≡ head_at t.files g = put_at f h t.files g ∙ rw miss refl in
        rw (miss, there) refl
  ]

-- ---- names

pub or_more : (a b c : Bool) → (b ≡ true → c ≡ true) → (a || b) ≡ true → (a || c) ≡ true
or_more true b c more e = refl
or_more false b c more e = more e

pub both_true : (a b : Bool) → a ≡ true → b ≡ true → (a && b) ≡ true
both_true a b p q = rw (p, q) refl

pub named_dir : (u : Tables) (m : ℕ) (y : Node) → y.kind ≡ Directory → is_named_back u (m, y) ≡ true
named_dir u m y e = rw e refl

abbrev pub Stays : Tables → Tables → NodeKind → ℕ → Type 0
Stays t u kind f = (m : ℕ) → is_named_as kind f (node_at t.nodes m) ≡ true → is_named_as kind f (node_at u.nodes m) ≡ true

pub has_stay : (t u : Tables) (f : ℕ) (h : FileHead) → Stays t u System f → Stays t u Alias f → has_names t (f, h) ≡ true → has_names u (f, h) ≡ true
has_stay t u f h system alias e =
    let p = and_parts (names_file_in_tables t f System h.system) (names_file_in_tables t f Alias h.alias) e in
    both_true (names_file_in_tables u f System h.system) (names_file_in_tables u f Alias h.alias)
    (or_more (eqb h.system 0) (is_named_as System f (node_at t.nodes h.system)) (is_named_as System f (node_at u.nodes h.system)) (system h.system) p.0)
    (or_more (eqb h.alias 0) (is_named_as Alias f (node_at t.nodes h.alias)) (is_named_as Alias f (node_at u.nodes h.alias)) (alias h.alias) p.1)

-- the head with another alias has its names where that is one
has_aliased : (t u : Tables) (f : ℕ) (h : FileHead) (n : ℕ) → Stays t u System f → names_file_in_tables u f Alias n ≡ true → has_names t (f, h) ≡ true → has_names u (f, head_with_alias h n) ≡ true
has_aliased t u f h n system alias e =
    let p = and_parts (names_file_in_tables t f System h.system) (names_file_in_tables t f Alias h.alias) e in
    both_true (names_file_in_tables u f System h.system) (names_file_in_tables u f Alias n)
    (or_more (eqb h.system 0) (is_named_as System f (node_at t.nodes h.system)) (is_named_as System f (node_at u.nodes h.system)) (system h.system) p.0) alias

-- ---- a node that is put

module _ (s : Shape) (t : Tables) (r : KeepsRules s t) where
  pub named_of : (n : ℕ) (x : Node) → node_at t.nodes n ≡ Some x → is_named_back t (n, x) ≡ true
  named_of n x at = all_there (λ (y : Numbered). is_named_back t y ≡ true) t.nodes (all_right (is_named_back t) t.nodes r.nodes) n x at

  pub has_of : (f : ℕ) (h : FileHead) → head_at t.files f ≡ Some h → has_names t (f, h) ≡ true
  has_of f h at = all_there (λ (y : NumberedFile). has_names t y ≡ true) t.files (all_right (has_names t) t.files r.names) f h at

  -- nodes that were there name the files that they named, but aliases of one file
  named_still : (u : Tables) (f : ℕ) (h : FileHead) (a m : ℕ) (y : Node) → head_at t.files f ≡ Some h → u.files ≡ with_head t.files f (head_with_alias h a) → node_at t.nodes m ≡ Some y → (y.kind ≡ Alias → y.file ≡ f → ⊥)
      → is_named_back u (m, y) ≡ true
  named_still u f h a m y head is at other = by y.kind refl where
    elsewhere : is_at (nat_cmp f) y.file ≡ false → head_at u.files y.file ≡ head_at t.files y.file
    elsewhere miss = ap (λ (fs : List NumberedFile). head_at fs y.file) is ∙ (put_at f (head_with_alias h a) t.files y.file ∙ rw miss refl)

    here : is_at (nat_cmp f) y.file ≡ true → head_at u.files y.file ≡ Some (head_with_alias h a)
    here hit = ap (λ (fs : List NumberedFile). head_at fs y.file) is ∙ (put_at f (head_with_alias h a) t.files y.file ∙ rw hit refl)

    was : is_at (nat_cmp f) y.file ≡ true → head_at t.files y.file ≡ Some h
    was hit = ap (λ (g : ℕ). head_at t.files g) (sym (number_is f y.file hit)) ∙ head

    by : (kind : NodeKind) → y.kind ≡ kind → is_named_back u (m, y) ≡ true
    by Directory k = named_dir u m y k
    by System k =
        let had : names_back System m (head_at t.files y.file) ≡ true = rw k at (named_of m y at) in
        rw k (elim (either (is_at (nat_cmp f) y.file)) [
          | inl hit ↦ rw (here hit) (rw (was hit) at had)
          | inr miss ↦ rw (elsewhere miss) had
        ])
    by Alias k =
        let had : names_back Alias m (head_at t.files y.file) ≡ true = rw k at (named_of m y at) in
        rw k (elim (either (is_at (nat_cmp f) y.file)) [
          | inl hit ↦ absurd (other k (sym (number_is f y.file hit)))
          | inr miss ↦ rw (elsewhere miss) had
        ])

  module _ (n : ℕ) (x : Node) where
    abbrev put : List Numbered
    put = with_numbered_node t.nodes n x

    put_here : (m : ℕ) (y : Node) → is_at (nat_cmp n) m ≡ true → node_at put m ≡ Some y → x ≡ y
    put_here m y hit e = some_is x y (sym (at_with t.nodes n x m ∙ rw hit refl) ∙ e)

    put_else : (m : ℕ) → is_at (nat_cmp n) m ≡ false → node_at put m ≡ node_at t.nodes m
    put_else m miss = at_with t.nodes n x m ∙ rw miss refl

    -- a new node leaves the names of files
    new_stays : (heads : List NumberedFile) (kind : NodeKind) (f : ℕ) → node_at t.nodes n ≡ None → Stays t (after t put heads) kind f
    new_stays heads kind f free m e = elim (either (is_at (nat_cmp n) m)) [
      | inl hit ↦ absurd (true≢false (sym e ∙ ap (is_named_as kind f) (ap (λ (k : ℕ). node_at t.nodes k) (sym (number_is n m hit)) ∙ free)))
      | inr miss ↦ rw (put_else m miss) e
    ]

    kept_stays : (kind : NodeKind) (f : ℕ) → KeepsName (node_at t.nodes n) x → Stays t (after t put t.files) kind f
    kept_stays kind f keeps m e = by (node_at t.nodes n) refl keeps where
      by : (o : Option Node) → node_at t.nodes n ≡ o → KeepsName o x → is_named_as kind f (node_at put m) ≡ true
      by None free k = new_stays t.files kind f free m e
      by (Some was) at k = elim (either (is_at (nat_cmp n) m)) [
        | inl hit ↦
            let there : node_at t.nodes m ≡ Some was = ap (λ (j : ℕ). node_at t.nodes j) (sym (number_is n m hit)) ∙ at in
            let had : (kind_eq was.kind kind && eqb was.file f) ≡ true = rw there at e in
            let now : node_at put m ≡ Some x = at_with t.nodes n x m ∙ rw hit refl in
            rw now (rw (k.0, k.1) had)
        | inr miss ↦ rw (put_else m miss) e
      ]

    kept_named : KeepsName (node_at t.nodes n) x → (m : ℕ) (y : Node) → node_at put m ≡ Some y → is_named_back (after t put t.files) (m, y) ≡ true
    kept_named keeps m y e = elim (either (is_at (nat_cmp n) m)) [
      | inr miss ↦ named_of m y (sym (put_else m miss) ∙ e)
      | inl hit ↦ subst (λ (z : Node). is_named_back t (m, z) ≡ true) (put_here m y hit e) (subst (λ (k : ℕ). is_named_back t (k, x) ≡ true) (number_is n m hit) (by (node_at t.nodes n) refl keeps))
    ] where
      by : (o : Option Node) → node_at t.nodes n ≡ o → KeepsName o x → is_named_back t (n, x) ≡ true
      by None free k = named_dir t n x k
      by (Some was) at k = let had : (is_kind_directory was.kind || names_back was.kind n (head_at t.files was.file)) ≡ true = named_of n was at in rw (k.0, k.1) had

    kept_has : KeepsName (node_at t.nodes n) x → (f : ℕ) (h : FileHead) → head_at t.files f ≡ Some h → has_names (after t put t.files) (f, h) ≡ true
    kept_has keeps f h at = has_stay t (after t put t.files) f h (kept_stays System f keeps) (kept_stays Alias f keeps) (has_of f h at)

    -- a new alias of a file that has none
    module _ (f : ℕ) (h : FileHead) (free : node_at t.nodes n ≡ None) (kind : x.kind ≡ Alias) (file : x.file ≡ f) (head : head_at t.files f ≡ Some h) (none : HasNoAlias t.nodes f) where
      abbrev new_heads : List NumberedFile
      new_heads = with_head t.files f (head_with_alias h n)

      head_now : head_at new_heads f ≡ Some (head_with_alias h n)
      head_now = put_at f (head_with_alias h n) t.files f ∙ rw (number_itself f) refl

      alias_named : (m : ℕ) (y : Node) → node_at put m ≡ Some y → is_named_back (after t put new_heads) (m, y) ≡ true
      alias_named m y e = elim (either (is_at (nat_cmp n) m)) [
        | inr miss ↦ let was : node_at t.nodes m ≡ Some y = sym (put_else m miss) ∙ e in named_still (after t put new_heads) f h n m y head refl was (none m y was)
        | inl hit ↦ subst (λ (z : Node). is_named_back (after t put new_heads) (m, z) ≡ true) (put_here m y hit e)
            (rw (kind, file) (rw head_now (eq-eqb n m (number_is n m hit))))
      ]

      alias_has : (g : ℕ) (hd : FileHead) → head_at new_heads g ≡ Some hd → has_names (after t put new_heads) (g, hd) ≡ true
      alias_has g hd e = elim (either (is_at (nat_cmp f) g)) [
        | inr miss ↦
            let was : head_at t.files g ≡ Some hd = sym (put_at f (head_with_alias h n) t.files g ∙ rw miss refl) ∙ e in
            has_stay t (after t put new_heads) g hd (new_stays new_heads System g free) (new_stays new_heads Alias g free) (has_of g hd was)
        | inl hit ↦
            let same : head_with_alias h n ≡ hd = some_is (head_with_alias h n) hd (sym (put_at f (head_with_alias h n) t.files g ∙ rw hit refl) ∙ e) in
            subst (λ (k : ℕ). has_names (after t put new_heads) (k, hd) ≡ true) (number_is f g hit) (subst (λ (z : FileHead). has_names (after t put new_heads) (f, z) ≡ true) same
            (has_aliased t (after t put new_heads) f h n (new_stays new_heads System f free) names (has_of f h head)))
      ] where
        names : names_file_in_tables (after t put new_heads) f Alias n ≡ true
        names =
            let now : node_at put n ≡ Some x = at_with t.nodes n x n ∙ rw (number_itself n) refl in
            or_more (eqb n 0) true (is_named_as Alias f (node_at put n)) (λ i. rw now (rw kind (eq-eqb x.file f file))) (or_true (eqb n 0))

  -- ---- a node that goes

  module _ (n : ℕ) (x : Node) (at : node_at t.nodes n ≡ Some x) where
    abbrev left : List Numbered
    left = without_numbered_node t.nodes n

    left_else : (m : ℕ) → is_at (nat_cmp n) m ≡ false → node_at left m ≡ node_at t.nodes m
    left_else m miss = at_without t.nodes n m r.tables.nodes.items.0 ∙ rw miss refl

    -- a node that is left was there, at another number
    left_was : (m : ℕ) (y : Node) → node_at left m ≡ Some y → (is_at (nat_cmp n) m ≡ false) × (node_at t.nodes m ≡ Some y)
    left_was m y e = elim (either (is_at (nat_cmp n) m)) [
      | inl hit ↦ absurd (none-some y (sym (at_without t.nodes n m r.tables.nodes.items.0 ∙ rw hit refl) ∙ e))
      | inr miss ↦ (miss, sym (left_else m miss) ∙ e)
    ]

    gone_stays : (heads : List NumberedFile) (kind : NodeKind) (f : ℕ) → is_named_as kind f (Some x) ≡ false → Stays t (after t left heads) kind f
    gone_stays heads kind f other m e = elim (either (is_at (nat_cmp n) m)) [
      | inl hit ↦ absurd (true≢false (sym e ∙ (ap (is_named_as kind f) (ap (λ (k : ℕ). node_at t.nodes k) (sym (number_is n m hit)) ∙ at) ∙ other)))
      | inr miss ↦ rw (left_else m miss) e
    ]

    dir_named : (m : ℕ) (y : Node) → node_at left m ≡ Some y → is_named_back (after t left t.files) (m, y) ≡ true
    dir_named m y e = named_of m y (left_was m y e).1

    dir_has : x.kind ≡ Directory → (f : ℕ) (h : FileHead) → head_at t.files f ≡ Some h → has_names (after t left t.files) (f, h) ≡ true
    dir_has kind f h head = has_stay t (after t left t.files) f h (gone_stays t.files System f (rw kind refl)) (gone_stays t.files Alias f (rw kind refl)) (has_of f h head)

    module _ (f : ℕ) (h : FileHead) (kind : x.kind ≡ Alias) (file : x.file ≡ f) (head : head_at t.files f ≡ Some h) where
      abbrev bare_heads : List NumberedFile
      bare_heads = with_head t.files f (head_with_alias h 0)

      -- it is the alias that the head names
      alias_is : h.alias ≡ n
      alias_is = eqb-true h.alias n (rw head at (rw file at (rw kind at (named_of n x at))))

      unalias_named : (m : ℕ) (y : Node) → node_at left m ≡ Some y → is_named_back (after t left bare_heads) (m, y) ≡ true
      unalias_named m y e = named_still (after t left bare_heads) f h 0 m y head refl was.1 (λ k g. true≢false (sym (subst (λ (j : ℕ). is_at (nat_cmp n) j ≡ true) (same k g) (number_itself n)) ∙ was.0)) where
        was : (is_at (nat_cmp n) m ≡ false) × (node_at t.nodes m ≡ Some y)
        was = left_was m y e

        same : y.kind ≡ Alias → y.file ≡ f → n ≡ m
        same k g = sym alias_is ∙ eqb-true h.alias m (rw head at (rw g at (rw k at (named_of m y was.1))))

      unalias_has : (g : ℕ) (hd : FileHead) → head_at bare_heads g ≡ Some hd → has_names (after t left bare_heads) (g, hd) ≡ true
      unalias_has g hd e = elim (either (is_at (nat_cmp f) g)) [
        | inr miss ↦
            let was : head_at t.files g ≡ Some hd = sym (put_at f (head_with_alias h 0) t.files g ∙ rw miss refl) ∙ e in
            has_stay t (after t left bare_heads) g hd (gone_stays bare_heads System g (rw kind refl)) (gone_stays bare_heads Alias g (rw kind (ne_eqb x.file g (λ z. true≢false (sym (subst (λ (j : ℕ). is_at (nat_cmp f) j ≡ true) (sym file ∙ z) (number_itself f)) ∙ miss))))) (has_of g hd was)
        | inl hit ↦
            let same : head_with_alias h 0 ≡ hd = some_is (head_with_alias h 0) hd (sym (put_at f (head_with_alias h 0) t.files g ∙ rw hit refl) ∙ e) in
            subst (λ (k : ℕ). has_names (after t left bare_heads) (k, hd) ≡ true) (number_is f g hit) (subst (λ (z : FileHead). has_names (after t left bare_heads) (f, z) ≡ true) same
            (has_aliased t (after t left bare_heads) f h 0 (gone_stays bare_heads System f (rw kind refl)) refl (has_of f h head)))
      ]

-- ---- heads

like_put : (fs : List NumberedFile) (f : ℕ) (h : FileHead) (a : ℕ) → head_at fs f ≡ Some h → AreLike fs (with_head fs f (head_with_alias h a))
like_put fs f h a head g = elim (either (is_at (nat_cmp f) g)) [
  | inl hit ↦
      let was : head_at fs g ≡ Some h = ap (λ (k : ℕ). head_at fs k) (sym (number_is f g hit)) ∙ head in
      let now : head_at (with_head fs f (head_with_alias h a)) g ≡ Some (head_with_alias h a) = put_at f (head_with_alias h a) fs g ∙ rw hit refl in
      rw (was, now) refl
  | inr miss ↦
      let stays : head_at (with_head fs f (head_with_alias h a)) g ≡ head_at fs g = put_at f (head_with_alias h a) fs g ∙ rw miss refl in
      rw stays (like_itself (head_at fs g))
]

and_last : (a x y : Bool) → (x ≡ true → y ≡ true) → (a && x) ≡ true → (a && y) ≡ true
and_last true x y more e = more e
and_last false x y more e = e

-- a head with another alias is one of the formats
pub head_is_item : (fs : List NumberedFile) (f : ℕ) (h : FileHead) (a : ℕ) → files.IsFileTable fs → head_at fs f ≡ Some h → a < 2 ^ 32 → is_item (file_item f (head_with_alias h a)) ≡ true
unfolding is_item
head_is_item fs f h a table head small =
    let was : is_item (file_item f h) ≡ true = all_there (λ (x : NumberedFile). is_item (file_item x.0 x.1) ≡ true) fs table.1 f h head in
    and_last (ltb f (2 ^ 32)) _ _ (and_last (is_redundancy h.copies) _ _ (and_last (is_part 30 h.type_name) _ _ (and_last (ltb h.size (2 ^ 64)) _ _ (and_last (ltb h.incarnation (2 ^ 64)) _ _
    (and_last (ltb 0 h.system) _ _ (and_last (ltb h.system (2 ^ 32)) _ _ (λ e. lt-ltb a (2 ^ 32) small))))))) was

pub node_is_item : (ns : List Numbered) (n : ℕ) (x : Node) → nodes.IsNodeTable (with_numbered_node ns n x) → is_item (node_item n x) ≡ true
node_is_item ns n x table = item_at (with_numbered_node ns n x) n x table.items (at_with ns n x n ∙ rw (number_itself n) refl)

-- ---- plans

with_tables : (t : Tables) (new : List Numbered) (heads : List NumberedFile) → AreTables t → nodes.IsNodeTable new → files.IsFileTable heads → AreTables (after t new heads)
with_tables t new heads a table held = record { files = held; extents = a.extents; nodes = table; templates = a.templates; stale = a.stale; operations = a.operations; disks = a.disks }

module _ (c : Catalogued) (put : List DirectoryRecord) (gone : List Key) (is : IsCatalog c) where
  abbrev t : Tables
  t = c.tables

  put_room : (n : ℕ) (x : Node) (heads : List NumberedFile) → length heads ≡ length t.files → (node_at t.nodes n ≡ None → blocks_used t + 2 < c.shape.dir_blocks) → blocks_used (after t (with_numbered_node t.nodes n x) heads) + 2 ≤ c.shape.dir_blocks
  put_room n x heads as_many room = by (node_at t.nodes n) refl where
    by : (o : Option Node) → node_at t.nodes n ≡ o → blocks_used (after t (with_numbered_node t.nodes n x) heads) + 2 ≤ c.shape.dir_blocks
    by None e =
        let longer = new_longer n x t.nodes is.rules.tables.nodes.items.0 e in
        omega (arith, longer, as_many, room e)
    by (Some was) e =
        let same = there_as_long n x was t.nodes is.rules.tables.nodes.items.0 e in
        omega (arith, same, as_many, is.rules.room)

  gone_room : (n : ℕ) (heads : List NumberedFile) → length heads ≡ length t.files → blocks_used (after t (without_numbered_node t.nodes n) heads) + 2 ≤ c.shape.dir_blocks
  gone_room n heads as_many =
      let few = gone_few (is_at (nat_cmp n)) t.nodes in
      omega (arith, few, as_many, is.rules.room)

  -- A node is put, and no head changes.
  pub node_planned : (n : ℕ) (x : Node) → nodes.IsNodeTable (with_numbered_node t.nodes n x) → KeepsName (node_at t.nodes n) x → (node_at t.nodes n ≡ None → blocks_used t + 2 < c.shape.dir_blocks)
      → put ≡ item_record (node_item n x) ∷ [] → gone ≡ [] → IsPlan c put gone (record t { nodes = with_numbered_node t.nodes n x })
  node_planned n x table keeps room p g =
      let r = is.rules in
      let are = with_tables t (with_numbered_node t.nodes n x) t.files r.tables table r.tables.files in
      rw (p, g) (plan_is c _ _ _
      (after_put t (record t { nodes = with_numbered_node t.nodes n x }) (item_record (node_item n x)) are (node_put t n x))
      (after_rules c.shape t (with_numbered_node t.nodes n x) t.files r (λ f. like_itself (head_at t.files f)) are (kept_named c.shape t r n x keeps) (kept_has c.shape t r n x keeps) (put_room n x t.files refl room))
      (λ es has. (c.units, has))
      (omega arith) refl (one_room c (item_record (node_item n x)) is (λ lacks. room (no_node t n lacks))))

  -- A new alias is put, and the head of its file has it.
  pub alias_planned : (n : ℕ) (x : Node) (h : FileHead) → nodes.IsNodeTable (with_numbered_node t.nodes n x) → n < 2 ^ 32 → node_at t.nodes n ≡ None → x.kind ≡ Alias → head_at t.files x.file ≡ Some h → HasNoAlias t.nodes x.file → blocks_used t + 2 < c.shape.dir_blocks
      → put ≡ item_record (node_item n x) ∷ item_record (file_item x.file (head_with_alias h n)) ∷ [] → gone ≡ []
      → IsPlan c put gone (record t { nodes = with_numbered_node t.nodes n x; files = with_head t.files x.file (head_with_alias h n) })
  alias_planned n x h table small free kind head none room p g =
      let r = is.rules in
      let heads = with_head t.files x.file (head_with_alias h n) in
      let held = put_keeps_table t.files x.file (head_with_alias h n) (head_is_item t.files x.file h n r.tables.files head small) r.tables.files in
      let mid = record t { nodes = with_numbered_node t.nodes n x } in
      let are = with_tables t (with_numbered_node t.nodes n x) heads r.tables table held in
      let as_many = there_as_long x.file (head_with_alias h n) h t.files r.tables.files.0 head in
      rw (p, g) (plan_is c _ _ _
      (after_two t mid (after t (with_numbered_node t.nodes n x) heads) (item_record (node_item n x)) (item_record (file_item x.file (head_with_alias h n))) are (node_put t n x) (head_put mid x.file (head_with_alias h n)))
      (after_rules c.shape t (with_numbered_node t.nodes n x) heads r (like_put t.files x.file h n head) are (alias_named c.shape t r n x x.file h free kind refl head none) (alias_has c.shape t r n x x.file h free kind refl head none)
      (put_room n x heads as_many (λ e. room)))
      (λ es has. (c.units, has))
      (omega arith) refl (first_room c (item_record (node_item n x)) (item_record (file_item x.file (head_with_alias h n))) room (head_there t x.file h head)))

  -- A directory goes.
  pub dir_gone_planned : (n : ℕ) (x : Node) → nodes.IsNodeTable (without_numbered_node t.nodes n) → node_at t.nodes n ≡ Some x → x.kind ≡ Directory → put ≡ [] → gone ≡ node_key n ∷ [] → IsPlan c put gone (record t { nodes = without_numbered_node t.nodes n })
  dir_gone_planned n x table at kind p g =
      let r = is.rules in
      let are = with_tables t (without_numbered_node t.nodes n) t.files r.tables table r.tables.files in
      rw (p, g) (plan_is c _ _ _
      (after_gone t (record t { nodes = without_numbered_node t.nodes n }) (node_key n) are (node_gone t n r.tables))
      (after_rules c.shape t (without_numbered_node t.nodes n) t.files r (λ f. like_itself (head_at t.files f)) are (dir_named c.shape t r n x at) (dir_has c.shape t r n x at kind) (gone_room n t.files refl))
      (λ es has. (c.units, has))
      (omega arith) refl (nothing_room c is))

  -- An alias goes, and the head of its file has none.
  pub alias_gone_planned : (n : ℕ) (x : Node) (h : FileHead) → nodes.IsNodeTable (without_numbered_node t.nodes n) → node_at t.nodes n ≡ Some x → x.kind ≡ Alias → head_at t.files x.file ≡ Some h
      → put ≡ item_record (file_item x.file (head_with_alias h 0)) ∷ [] → gone ≡ node_key n ∷ []
      → IsPlan c put gone (record t { nodes = without_numbered_node t.nodes n; files = with_head t.files x.file (head_with_alias h 0) })
  alias_gone_planned n x h table at kind head p g =
      let r = is.rules in
      let heads = with_head t.files x.file (head_with_alias h 0) in
      let small : 0 < 2 ^ 32 = omega arith in
      let held = put_keeps_table t.files x.file (head_with_alias h 0) (head_is_item t.files x.file h 0 r.tables.files head small) r.tables.files in
      let mid = record t { files = heads } in
      let middle = with_tables t t.nodes heads r.tables r.tables.nodes held in
      let are = with_tables t (without_numbered_node t.nodes n) heads r.tables table held in
      let as_many = there_as_long x.file (head_with_alias h 0) h t.files r.tables.files.0 head in
      rw (p, g) (plan_is c _ _ _
      (after_put_gone t mid (after t (without_numbered_node t.nodes n) heads) (item_record (file_item x.file (head_with_alias h 0))) (node_key n) are (head_put t x.file (head_with_alias h 0)) (node_gone mid n middle))
      (after_rules c.shape t (without_numbered_node t.nodes n) heads r (like_put t.files x.file h 0 head) are (unalias_named c.shape t r n x at x.file h kind refl head) (unalias_has c.shape t r n x at x.file h kind refl head)
      (gone_room n heads as_many))
      (λ es has. (c.units, has))
      (omega arith) refl (old_room c (item_record (file_item x.file (head_with_alias h 0))) is (head_there t x.file h head)))

-- ---- the same, by what the steps of a plan give

module _ (c : Catalogued) (put : List DirectoryRecord) (gone : List Key) (is : IsCatalog c) where
  abbrev tables : Tables
  tables = c.tables

  pub alias_put : (n : ℕ) (x : Node) (h named : FileHead) (g : ℕ) (name file : DirectoryRecord) → g ≡ x.file → Some h ≡ head_at tables.files g → named ≡ head_with_alias h n → nodes.IsNodeTable (with_numbered_node tables.nodes n x) → n < 2 ^ 32 → IsNewAlias tables x
      → node_at tables.nodes n ≡ None → blocks_used tables + 2 < c.shape.dir_blocks → name ≡ item_record (node_item n x) → file ≡ item_record (file_item g named) → put ≡ name ∷ file ∷ [] → gone ≡ []
      → IsPlan c put gone (record tables { nodes = with_numbered_node tables.nodes n x; files = aliased_head tables.files x.file n (head_at tables.files x.file) })
  alias_put n x h named g name file same at named_is table small new free room name_is file_is p q =
      let head : head_at tables.files x.file ≡ Some h = ap (λ (k : ℕ). head_at tables.files k) (sym same) ∙ sym at in
      let written : file ≡ item_record (file_item x.file (head_with_alias h n)) =
      file_is ∙ (ap (λ (k : ℕ). item_record (file_item k named)) same ∙ ap (λ (z : FileHead). item_record (file_item x.file z)) named_is) in
      let puts : put ≡ item_record (node_item n x) ∷ item_record (file_item x.file (head_with_alias h n)) ∷ [] =
      p ∙ (ap (λ (e : DirectoryRecord). e ∷ file ∷ []) name_is ∙ ap (λ (e : DirectoryRecord). item_record (node_item n x) ∷ e ∷ []) written) in
      subst (λ (o : Option FileHead). IsPlan c put gone (record tables { nodes = with_numbered_node tables.nodes n x; files = aliased_head tables.files x.file n o })) (sym head)
      (alias_planned c put gone is n x h table small free new.kind head new.none room puts q)

  pub alias_gone : (n : ℕ) (x : Node) (h unnamed : FileHead) (g : ℕ) (file : DirectoryRecord) (key : Key) (before : List Key) → g ≡ x.file → Some h ≡ head_at tables.files g → unnamed ≡ head_with_alias h 0 → nodes.IsNodeTable (without_numbered_node tables.nodes n)
      → node_at tables.nodes n ≡ Some x → x.kind ≡ Alias → file ≡ item_record (file_item g unnamed) → key ≡ node_key n → put ≡ file ∷ [] → before ≡ [] → gone ≡ before ++ key ∷ []
      → IsPlan c put gone (record tables { nodes = without_numbered_node tables.nodes n; files = aliased_head tables.files x.file 0 (head_at tables.files x.file) })
  alias_gone n x h unnamed g file key before same at unnamed_is table there kind file_is key_is p none q =
      let head : head_at tables.files x.file ≡ Some h = ap (λ (k : ℕ). head_at tables.files k) (sym same) ∙ sym at in
      let written : file ≡ item_record (file_item x.file (head_with_alias h 0)) =
      file_is ∙ (ap (λ (k : ℕ). item_record (file_item k unnamed)) same ∙ ap (λ (z : FileHead). item_record (file_item x.file z)) unnamed_is) in
      let goes : gone ≡ node_key n ∷ [] = q ∙ (ap (λ (ks : List Key). ks ++ key ∷ []) none ∙ ap (λ (k : Key). k ∷ []) key_is) in
      subst (λ (o : Option FileHead). IsPlan c put gone (record tables { nodes = without_numbered_node tables.nodes n; files = aliased_head tables.files x.file 0 o })) (sym head)
      (alias_gone_planned c put gone is n x h table there kind head (p ∙ ap (λ (e : DirectoryRecord). e ∷ []) written) goes)

  pub dir_gone : (n : ℕ) (x : Node) (key : Key) → nodes.IsNodeTable (without_numbered_node tables.nodes n) → Some x ≡ node_at tables.nodes n → x.kind ≡ Directory → key ≡ node_key n → put ≡ [] → gone ≡ key ∷ []
      → IsPlan c put gone (record tables { nodes = without_numbered_node tables.nodes n; files = heads_without tables.files (node_at tables.nodes n) })
  dir_gone n x key table there kind key_is p q =
      let heads : heads_without tables.files (node_at tables.nodes n) ≡ tables.files = ap (λ (o : Option Node). heads_without tables.files o) (sym there) ∙ rw kind refl in
      subst (λ (fs : List NumberedFile). IsPlan c put gone (record tables { nodes = without_numbered_node tables.nodes n; files = fs })) (sym heads)
      (dir_gone_planned c put gone is n x table (sym there) kind p (q ∙ ap (λ (k : Key). k ∷ []) key_is))

-- the file of an alias has a head
pub alias_headed : (c : Catalogued) (n : ℕ) (x : Node) (g : ℕ) → IsCatalog c → node_at c.tables.nodes n ≡ Some x → x.kind ≡ Alias → g ≡ x.file → head_at c.tables.files g ≡ None → ⊥
alias_headed c n x g is at kind same none =
    let head : head_at c.tables.files x.file ≡ None = ap (λ (k : ℕ). head_at c.tables.files k) (sym same) ∙ none in
    let had : names_back Alias n (head_at c.tables.files x.file) ≡ true = rw kind at (named_of c.shape c.tables is.rules n x at) in
    true≢false (sym had ∙ ap (λ (o : Option FileHead). names_back Alias n o) head)
