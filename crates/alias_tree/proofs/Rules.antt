-- The tree is read from its records, with its index and its rule.
use Rattle.std.proofs.Common.{◌≡◌, ℕ, zero, suc, ◌-◌, ◌<◌, Bool, true, false, eqb, cond, List, [], ◌∷◌, ◌++◌, length, map, Option, Some, None, refl, sym, ap, subst, ◌∙◌, arith, inl, inr, ◌⊎◌, append_assoc}
use Rattle.std.specs.Prelude.{is_some, IfSome}
use Rattle.std.specs.List.{list_all}
use Rattle.std.specs.Option.{option_map}
use Rattle.std.specs.Ordering.{nat_cmp}
use Rattle.std.specs.declared.cmp.Ordering.TheVariants.{Less}
use Rattle.std.proofs.lemmas.Bool.{and_parts, and_from, eqb-true, eq-eqb, true≢false}
use Rattle.std.proofs.lemmas.Cmp.{nat_cmp_total}
use Rattle.std.proofs.lemmas.List.{append-nil}
use Rattle.std.proofs.lemmas.Option.{none-some}
use Rattle.asm_group.specs.Names.{folded}
use Rattle.asm_formats.specs.Items.{Item, file_item, chunk_item, disk_item, rebalance_item, pending_item, templates_item, node_item, settings_item, marks_item, Key, Node}
use Rattle.asm_formats.specs.Values.{decoded_item}
use Rattle.asm_base.specs.Records.{DirectoryRecord, Ascend, add_item, ends_below, of_kinds, read_from}
use Rattle.asm_base.specs.Tables.{IsItemTable, entry_of_record}
use Rattle.asm_base.proofs.Exact.{some_is}
use Rattle.asm_base.proofs.ItemTables.{IsEntry, entry_is_read, entry_taken, items_found, items_again}
use Rattle.alias_tree.specs.Nodes.{Numbered, item_of_node, node_of_item, record_of_node, is_key_of_node, is_before, node_at, with_numbered_node, is_directory, reaches_root, IsNodeTable, parent_is_right, is_right}
use Rattle.alias_tree.specs.Faults.{IsTwin}
use Rattle.alias_tree.specs.Places.{Place, place_of, is_same_place, number_at_place, HasIndex, IsIndex, IsNodeAmong, Indexes, SoFar, Clash}
use Rattle.alias_tree.proofs.PlaceLaws.{same_is, self_same, one_name, one_place}
use Rattle.alias_tree.proofs.IndexLaws.{either, not_same, at_member, member_at, first_below, less_apart, tail_up, it_stands}

-- ---- the records

node_entry : IsEntry item_of_node node_of_item
node_entry = record { there = there; back = λ x. refl } where
  there : (i : Item) (x : Numbered) → node_of_item i ≡ Some x → item_of_node x ≡ i
  there (node_item n node) x e = ap item_of_node (sym (some_is (n, node) x e))
  there (file_item f head) x e = absurd (none-some x e)
  there (chunk_item f c homes) x e = absurd (none-some x e)
  there (disk_item d info) x e = absurd (none-some x e)
  there (rebalance_item power) x e = absurd (none-some x e)
  there (pending_item op) x e = absurd (none-some x e)
  there (templates_item ts) x e = absurd (none-some x e)
  there (settings_item s) x e = absurd (none-some x e)
  there (marks_item f c marks) x e = absurd (none-some x e)

entry_read : (key : Key) (value : List ℕ) (read : Option Node) → option_map (node_item key.a) read ≡ decoded_item key value → entry_of_record node_of_item (key, value) ≡ option_map (λ node. (key.a, node)) read
entry_read key value read e = entry_is_read node_entry (node_item key.a) (λ (node : Node). (key.a, node)) (λ node. refl) (key, value) read e

abbrev add : List Numbered → DirectoryRecord → Option (List Numbered)
add nodes e = add_item is_before (entry_of_record node_of_item) nodes e

-- one record more
pub taken_step : (nodes new : List Numbered) (key : Key) (value : List ℕ) (node : Node) → key.kind ≡ 6 → Ascend is_before nodes → option_map (node_item key.a) (Some node) ≡ decoded_item key value
    → ends_below is_before nodes key.a ≡ true → new ≡ with_numbered_node nodes key.a node → (cond (is_key_of_node key) (add nodes (key, value)) (Some nodes) ≡ Some new) × Ascend is_before new
taken_step nodes new key value node kind up read ends put =
    let t = entry_taken node_entry nat_cmp nat_cmp_total nodes new (key, value) (key.a, node) up (entry_read key value (Some node) read) ends put in
    (rw (eq-eqb key.kind 6 kind) t.0, t.1)

pub refused_value : (nodes : List Numbered) (key : Key) (value : List ℕ) → key.kind ≡ 6 → option_map (node_item key.a) None ≡ decoded_item key value → cond (is_key_of_node key) (add nodes (key, value)) (Some nodes) ≡ None
refused_value nodes key value kind read = rw (eq-eqb key.kind 6 kind, entry_read key value None read) refl

pub refused_order : (nodes : List Numbered) (key : Key) (value : List ℕ) (node : Node) → key.kind ≡ 6 → option_map (node_item key.a) (Some node) ≡ decoded_item key value → ends_below is_before nodes key.a ≡ false
    → cond (is_key_of_node key) (add nodes (key, value)) (Some nodes) ≡ None
refused_order nodes key value node kind read ends = rw (eq-eqb key.kind 6 kind, entry_read key value (Some node) read, ends) refl

pub nodes_found : (records : List DirectoryRecord) (read : Option (List Numbered)) → read ≡ read_from is_key_of_node (add_item is_before (entry_of_record node_of_item)) [] records
    → IfSome read (λ t. IsItemTable is_before item_of_node t × (of_kinds is_key_of_node records ≡ map record_of_node t))
nodes_found records read e = items_found node_entry is_key_of_node is_before records read e

pub nodes_again : (records : List DirectoryRecord) (read : Option (List Numbered)) → read ≡ read_from is_key_of_node (add_item is_before (entry_of_record node_of_item)) [] records
    → (t : List Numbered) → IsItemTable is_before item_of_node t → of_kinds is_key_of_node records ≡ map record_of_node t → read ≡ Some t
nodes_again records read e t fits same = items_again node_entry is_key_of_node is_before records read t e fits same

-- ---- the way to the root

pub at_root : (nodes : List Numbered) (steps n : ℕ) → n ≡ 0 → reaches_root nodes steps n ≡ true
unfolding reaches_root
at_root nodes zero n e = eq-eqb n 0 e
at_root nodes (suc steps) n e = rw (eq-eqb n 0 e) refl

pub no_steps : (nodes : List Numbered) (steps n : ℕ) → steps ≡ 0 → reaches_root nodes steps n ≡ eqb n 0
unfolding reaches_root
no_steps nodes zero n e = refl
no_steps nodes (suc steps) n e = absurd (omega arith)

not_zero : (n : ℕ) → (n ≡ 0 → ⊥) → eqb n 0 ≡ false
not_zero n other = elim (either (eqb n 0)) [ inl e ↦ absurd (other (eqb-true n 0 e)) | inr e ↦ e ]

pub step_up : (nodes : List Numbered) (steps n : ℕ) (node : Node) → 0 < steps → (n ≡ 0 → ⊥) → node_at nodes n ≡ Some node → reaches_root nodes steps n ≡ reaches_root nodes (steps - 1) node.parent
unfolding reaches_root
step_up nodes zero n node some other e = absurd (omega arith)
step_up nodes (suc steps) n node some other e =
    let less : suc steps - 1 ≡ steps = omega arith in
    rw (not_zero n other, e, less) refl

pub no_way : (nodes : List Numbered) (steps n : ℕ) → 0 < steps → (n ≡ 0 → ⊥) → node_at nodes n ≡ None → reaches_root nodes steps n ≡ false
unfolding reaches_root
no_way nodes zero n some other e = absurd (omega arith)
no_way nodes (suc steps) n some other e = rw (not_zero n other, e) refl

-- ---- the index is made

member_left : (x : Numbered) (done left : List Numbered) → IsNodeAmong x done → IsNodeAmong x (done ++ left)
member_left x [] left m = absurd m
member_left x (y ∷ done) left m = elim m [ inl e ↦ inl e | inr later ↦ inr (member_left x done left later) ]

member_middle : (x : Numbered) (done left : List Numbered) → IsNodeAmong x (done ++ x ∷ left)
member_middle x [] left = inl refl
member_middle x (y ∷ done) left = inr (member_middle x done left)

member_ends : (x y : Numbered) (done : List Numbered) → IsNodeAmong y (done ++ x ∷ []) → IsNodeAmong y done ⊎ (y ≡ x)
member_ends x y [] m = elim m [ inl e ↦ inr e | inr none ↦ absurd none ]
member_ends x y (z ∷ done) m = elim m [
  | inl e ↦ inl (inl e)
  | inr later ↦ elim (member_ends x y done later) [ inl before ↦ inl (inr before) | inr last ↦ inr last ]
]

pub so_far_none : (nodes : List Numbered) → SoFar nodes nodes []
so_far_none nodes = record { done = []; split = refl; indexes = record { there = λ x m. absurd m; only = λ p n e. absurd (none-some n e) } }

pub so_far_more : (nodes : List Numbered) (x : Numbered) (left : List Numbered) (places after : List (Place × ℕ)) → SoFar nodes (x ∷ left) places → number_at_place places (place_of x.1) ≡ None
    → ((q : Place) → number_at_place after q ≡ cond (is_same_place (place_of x.1) q) (Some x.0) (number_at_place places q)) → SoFar nodes left after
so_far_more nodes x left places after s free put = record { done = s.done ++ x ∷ []; split = append_assoc s.done (x ∷ []) left ∙ s.split; indexes = record { there = there; only = only } } where
  there : (y : Numbered) → IsNodeAmong y (s.done ++ x ∷ []) → number_at_place after (place_of y.1) ≡ Some y.0
  there y m = elim (member_ends x y s.done m) [
    | inl before ↦
        let old = s.indexes.there y before in
        let apart : is_same_place (place_of x.1) (place_of y.1) ≡ false = not_same (place_of x.1) (place_of y.1) (λ same. none-some y.0 (sym free ∙ (ap (λ (p : Place). number_at_place places p) same ∙ old))) in
        put (place_of y.1) ∙ (rw apart old)
    | inr last ↦ subst (λ (z : Numbered). number_at_place after (place_of z.1) ≡ Some z.0) (sym last) (put (place_of x.1) ∙ rw (self_same (place_of x.1)) refl)
  ]

  only : (p : Place) (n : ℕ) → number_at_place after p ≡ Some n → (node : Node) × IsNodeAmong (n, node) (s.done ++ x ∷ []) × (place_of node ≡ p)
  only p n e = elim (either (is_same_place (place_of x.1) p)) [
    | inl hit ↦
        let number : x.0 ≡ n = some_is x.0 n (sym (rw hit at (put p)) ∙ e) in
        (x.1, subst (λ (m : ℕ). IsNodeAmong (m, x.1) (s.done ++ x ∷ [])) number (member_middle x s.done []), same_is (place_of x.1) p hit)
    | inr miss ↦
        let old = s.indexes.only p n (sym (rw miss at (put p)) ∙ e) in
        (old.0, member_left (n, old.0) s.done (x ∷ []) old.1, old.2)
  ]

is_there : (o : Option ℕ) → is_some o ≡ true → (n : ℕ) × (o ≡ Some n)
is_there (Some n) e = (n, refl)
is_there None e = absurd cc

pub so_far_clash : (nodes : List Numbered) (x : Numbered) (left : List Numbered) (places : List (Place × ℕ)) → SoFar nodes (x ∷ left) places → is_some (number_at_place places (place_of x.1)) ≡ true → Clash nodes
so_far_clash nodes x left places s some =
    let n = is_there (number_at_place places (place_of x.1)) some in
    let old = s.indexes.only (place_of x.1) n.0 n.1 in
    record { done = s.done; x = x; left = left; y = (n.0, old.0); split = s.split; earlier = old.1; same = old.2 }

pub so_far_twin : (nodes : List Numbered) (x : Numbered) (left : List Numbered) (places : List (Place × ℕ)) → SoFar nodes (x ∷ left) places → is_some (number_at_place places (place_of x.1)) ≡ true → IsTwin nodes x.0
unfolding so_far_clash
so_far_twin nodes x left places s some = record { clash = so_far_clash nodes x left places s some; number = refl }

pub so_far_all : (nodes : List Numbered) (places : List (Place × ℕ)) → SoFar nodes [] places → Indexes nodes places
so_far_all nodes places s = subst (λ (xs : List Numbered). Indexes xs places) (sym (append-nil s.done) ∙ s.split) s.indexes

pub so_far_indexed : (nodes : List Numbered) (places : List (Place × ℕ)) → SoFar nodes [] places → HasIndex nodes
so_far_indexed nodes places s = record { places = places; indexes = so_far_all nodes places s }

-- ---- the rule

all_members : (f : Numbered → Bool) (nodes : List Numbered) → ((x : Numbered) → IsNodeAmong x nodes → f x ≡ true) → list_all f nodes ≡ true
all_members f [] each = refl
all_members f (x ∷ nodes) each = and_from (f x) (list_all f nodes) (each x (inl refl)) (all_members f nodes (λ y m. each y (inr m)))

each_member : (f : Numbered → Bool) (nodes : List Numbered) (x : Numbered) → list_all f nodes ≡ true → IsNodeAmong x nodes → f x ≡ true
each_member f [] x all m = absurd m
each_member f (y ∷ nodes) x all m =
    let parts = and_parts (f y) (list_all f nodes) all in
    elim m [ inl e ↦ ap f e ∙ parts.0 | inr later ↦ each_member f nodes x parts.1 later ]

pub index_of : (nodes : List Numbered) (places : List (Place × ℕ)) → IsItemTable is_before item_of_node nodes → Indexes nodes places → IsIndex nodes places
index_of nodes places t i = record {
  there = λ n node e. i.there (n, node) (at_member nodes n node e);
  only = λ p n e. let o = i.only p n e in it_stands nodes n o.0 p (member_at nodes (n, o.0) t.0 o.1) o.2;
}

pub table_of : (nodes : List Numbered) (places : List (Place × ℕ)) → IsItemTable is_before item_of_node nodes → Indexes nodes places → list_all (is_right nodes) nodes ≡ true → IsNodeTable nodes
table_of nodes places t i all = record { items = t; rule = record { parents = parents; rooted = rooted; distinct = distinct } } where
  right : (n : ℕ) (node : Node) → node_at nodes n ≡ Some node → is_right nodes (n, node) ≡ true
  right n node e = each_member (is_right nodes) nodes (n, node) all (at_member nodes n node e)

  parents : (n : ℕ) (node parent : Node) → node_at nodes n ≡ Some node → node_at nodes node.parent ≡ Some parent → is_directory parent ≡ true
  parents n node parent e f =
      let parts = and_parts (parent_is_right (node_at nodes node.parent)) (reaches_root nodes (length nodes) n) (right n node e) in
      ap parent_is_right (sym f) ∙ parts.0

  rooted : (n : ℕ) (node : Node) → node_at nodes n ≡ Some node → reaches_root nodes (length nodes) n ≡ true
  rooted n node e = (and_parts (parent_is_right (node_at nodes node.parent)) (reaches_root nodes (length nodes) n) (right n node e)).1

  distinct : (m n : ℕ) (a b : Node) → node_at nodes m ≡ Some a → node_at nodes n ≡ Some b → a.parent ≡ b.parent → folded a.name ≡ folded b.name → m ≡ n
  distinct m n a b e f p q =
      let first = i.there (m, a) (at_member nodes m a e) in
      let second = i.there (n, b) (at_member nodes n b f) in
      some_is m n (sym first ∙ (ap (λ (x : Place). number_at_place places x) (one_place a.parent b.parent a.name b.name p q) ∙ second))

pub rule_tested : (nodes : List Numbered) → IsNodeTable nodes → list_all (is_right nodes) nodes ≡ true
rule_tested nodes t = all_members (is_right nodes) nodes each where
  parent_right : (x : Numbered) (o : Option Node) → node_at nodes x.0 ≡ Some x.1 → node_at nodes x.1.parent ≡ o → parent_is_right o ≡ true
  parent_right x None e f = refl
  parent_right x (Some parent) e f = t.rule.parents x.0 x.1 parent e f

  each : (x : Numbered) → IsNodeAmong x nodes → is_right nodes x ≡ true
  each x m =
      let e = member_at nodes x t.items.0 m in
      and_from (parent_is_right (node_at nodes x.1.parent)) (reaches_root nodes (length nodes) x.0) (parent_right x (node_at nodes x.1.parent) e refl) (t.rule.rooted x.0 x.1 e)

earlier_below : (y x : Numbered) (done left : List Numbered) → Ascend is_before (done ++ x ∷ left) → IsNodeAmong y done → nat_cmp y.0 x.0 ≡ Less
earlier_below y x [] left up m = absurd m
earlier_below y x (z ∷ done) left up m = elim m [
  | inl e ↦ subst (λ (w : Numbered). nat_cmp w.0 x.0 ≡ Less) (sym e) (first_below z (done ++ x ∷ left) x up (member_middle x done left))
  | inr later ↦ earlier_below y x done left (tail_up z (done ++ x ∷ left) up) later
]

pub no_clash : (nodes : List Numbered) → IsNodeTable nodes → Clash nodes → ⊥
no_clash nodes t c =
    let up : Ascend is_before (c.done ++ c.x ∷ c.left) = subst (λ (xs : List Numbered). Ascend is_before xs) (sym c.split) t.items.0 in
    let mine : IsNodeAmong c.x nodes = subst (λ (xs : List Numbered). IsNodeAmong c.x xs) c.split (member_middle c.x c.done c.left) in
    let other : IsNodeAmong c.y nodes = subst (λ (xs : List Numbered). IsNodeAmong c.y xs) c.split (member_left c.y c.done (c.x ∷ c.left) c.earlier) in
    let names = one_name c.y.1.parent c.x.1.parent c.y.1.name c.x.1.name c.same in
    let same : c.y.0 ≡ c.x.0 = t.rule.distinct c.y.0 c.x.0 c.y.1 c.x.1 (member_at nodes c.y t.items.0 other) (member_at nodes c.x t.items.0 mine) names.0 names.1 in
    less_apart c.y.0 c.x.0 (earlier_below c.y c.x c.done c.left up c.earlier) same

-- ---- what is read

-- each table with these records would have been read
abbrev pub IsRead : List DirectoryRecord → Option (List Numbered) → Type 0
IsRead records read = (t : List Numbered) → IsItemTable is_before item_of_node t → of_kinds is_key_of_node records ≡ map record_of_node t → read ≡ Some t

-- no tree has these records
abbrev pub Nothing : List DirectoryRecord → Type 0
Nothing records = (t : List Numbered) → IsNodeTable t → of_kinds is_key_of_node records ≡ map record_of_node t → ◌≡◌ {A = Option (List Numbered)} None (Some t)

pub refused_none : (records : List DirectoryRecord) (read : Option (List Numbered)) → read ≡ None → IsRead records read → Nothing records
refused_none records read e only t table same = sym e ∙ only t table.items same

pub refused_by : (records : List DirectoryRecord) (nodes : List Numbered) (read : Option (List Numbered)) → read ≡ Some nodes → IsRead records read → (IsNodeTable nodes → ⊥) → Nothing records
refused_by records nodes read e only bad t table same = absurd (bad (subst (λ (ns : List Numbered). IsNodeTable ns) (some_is t nodes (sym (only t table.items same) ∙ e)) table))

pub read_same : (records : List DirectoryRecord) (nodes : List Numbered) (read : Option (List Numbered)) → read ≡ Some nodes → IsRead records read → (t : List Numbered) → IsNodeTable t → of_kinds is_key_of_node records ≡ map record_of_node t → ◌≡◌ {A = Option (List Numbered)} (Some nodes) (Some t)
read_same records nodes read e only t table same = sym e ∙ only t table.items same

pub found_of : (records : List DirectoryRecord) (nodes : List Numbered) (read : Option (List Numbered)) → read ≡ Some nodes → IfSome read (λ t. IsItemTable is_before item_of_node t × (of_kinds is_key_of_node records ≡ map record_of_node t))
    → IsItemTable is_before item_of_node nodes × (of_kinds is_key_of_node records ≡ map record_of_node nodes)
found_of records nodes read e found = rw e at found

pub not_rooted : (nodes : List Numbered) → list_all (is_right nodes) nodes ≡ false → IsNodeTable nodes → ⊥
not_rooted nodes e t = true≢false (sym (rule_tested nodes t) ∙ e)
