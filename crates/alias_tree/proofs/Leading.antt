-- What the tree of names says of all its paths, by the nodes.
use Rattle.std.proofs.Common.{◌≡◌, ℕ, Bool, true, false, eqb, List, [], ◌∷◌, ◌++◌, length, Option, Some, None, refl, sym, ap, subst, ◌∙◌, arith, inl, inr, ◌⊎◌}
use Rattle.std.specs.Prelude.{is_some, nat_lt}
use Rattle.std.specs.FinMap as maps
use Rattle.std.specs.List.{list_any, AllByRecursion}
use Rattle.std.specs.List.Sorted.{IsStrictlySortedBy}
use Rattle.std.specs.Map.{keys_of}
use Rattle.std.specs.Option.{option_and_then, option_map}
use Rattle.std.specs.Str.{bytes_eq}
use Rattle.std.proofs.lemmas.Bool.{and_parts, eqb-true, eq-eqb, lt-ltb, true≢false}
use Rattle.std.proofs.lemmas.Slice.Eq.{bytes_eq-Decides}
use Rattle.asm_group.specs.Names.{Bytes, Path, folded, folded_path}
use Rattle.asm_group.specs.Group.{TreeNode, TreeEntry}
use Rattle.asm_group.specs.TreeEdits.{Tree, is_under, has_entries, is_tree_entry, leads_to}
use Rattle.asm_formats.specs.Items.{Node}
use Rattle.asm_base.specs.Records.{Ascend}
use Rattle.alias_tree.specs.Nodes.{Numbered, is_before, node_at, has_parent, is_under_parent as hangs_under, IsNodeTable}
use Rattle.alias_tree.specs.Places.{Place, place_cmp, numbers_under, IsIndex, IsNodeAmong}
use Rattle.asm_formats.specs.Nodes.{node_kind, entry_of_node}
use Rattle.alias_tree.specs.Trees.{tree_of, number_by}
use Rattle.alias_tree.proofs.IndexLaws.{either, at_member, member_at}
use Rattle.alias_tree.proofs.Under.{under_is}
use Rattle.alias_tree.proofs.Ways.{is_key, key_is, key_self, way, way_leads, child_found, child_at, by_append, by_last, by_step, tree_has}

pub same_bool : (a b : Bool) → (a ≡ true → b ≡ true) → (b ≡ true → a ≡ true) → a ≡ b
same_bool true b f g = sym (f refl)
same_bool false true f g = g refl
same_bool false false f g = refl

-- ---- keys

abbrev pub Among : {A : Type 0} → A → List A → Type 0
Among x [] = ⊥
Among x (y ∷ ys) = (x ≡ y) ⊎ Among x ys

pub any_some : {A : Type 0} (p : A → Bool) (xs : List A) → list_any p xs ≡ true → (x : A) × Among x xs × (p x ≡ true)
any_some p [] e = absurd cc
any_some p (x ∷ xs) e = elim (either (p x)) [
  | inl hit ↦ (x, inl refl, hit)
  | inr miss ↦ let more = any_some p xs (rw miss at e) in (more.0, inr more.1, more.2)
]

pub any_of : {A : Type 0} (p : A → Bool) (xs : List A) (x : A) → Among x xs → p x ≡ true → list_any p xs ≡ true
any_of p [] x m e = absurd m
any_of p (y ∷ xs) x m e = elim (either (p y)) [
  | inl hit ↦ rw hit refl
  | inr miss ↦ elim m [
    | inl same ↦ absurd (true≢false (sym e ∙ (ap p same ∙ miss)))
    | inr later ↦ rw miss (any_of p xs x later e)
  ]
]

-- a key that passes is that of an entry
pub any_key : (t : Tree) (p : Path → Bool) → list_any p (maps.keys t) ≡ true → (k : Path) × (p k ≡ true) × (is_some (maps.get t k) ≡ true)
any_key t p e =
    let x = any_some p (maps.keys t) e in
    (x.0, x.2, maps.contains_key-keys t x.0 ∙ any_of (λ q. is_key x.0 q) (maps.keys t) x.0 x.1 (key_self x.0))

pub key_any : (t : Tree) (p : Path → Bool) (k : Path) → is_some (maps.get t k) ≡ true → p k ≡ true → list_any p (maps.keys t) ≡ true
key_any t p k there e =
    let x = any_some (λ q. is_key k q) (maps.keys t) (sym (maps.contains_key-keys t k) ∙ there) in
    any_of p (maps.keys t) x.0 x.1 (ap p (sym (key_is k x.0 x.2)) ∙ e)

-- ---- entries and nodes

-- the node that an entry shows
pub shown_node : (nodes : List Numbered) (k : Path) → IsNodeTable nodes → is_some (maps.get (tree_of nodes) k) ≡ true → (n : ℕ) × (node : Node) × (number_by nodes 0 k ≡ Some n) × (node_at nodes n ≡ Some node)
shown_node nodes k t there = one (number_by nodes 0 k) refl (ap is_some (sym (tree_has nodes k t)) ∙ there) where
  two : (n : ℕ) → number_by nodes 0 k ≡ Some n → (o : Option Node) → node_at nodes n ≡ o → is_some (option_map entry_of_node o) ≡ true → (n : ℕ) × (node : Node) × (number_by nodes 0 k ≡ Some n) × (node_at nodes n ≡ Some node)
  two n e None f h = absurd cc
  two n e (Some node) f h = (n, node, e, f)

  one : (o : Option ℕ) → number_by nodes 0 k ≡ o → is_some (option_map entry_of_node (option_and_then (λ n. node_at nodes n) o)) ≡ true → (n : ℕ) × (node : Node) × (number_by nodes 0 k ≡ Some n) × (node_at nodes n ≡ Some node)
  one None e h = absurd cc
  one (Some n) e h = two n e (node_at nodes n) refl h

-- the entry that shows a node
pub shows : (nodes : List Numbered) (k : Path) (n : ℕ) (node : Node) → IsNodeTable nodes → number_by nodes 0 k ≡ Some n → node_at nodes n ≡ Some node → maps.get (tree_of nodes) k ≡ Some (entry_of_node node)
shows nodes k n node t e f = tree_has nodes k t ∙ ap (λ (o : Option Node). option_map entry_of_node o) (ap (λ (o : Option ℕ). option_and_then (λ m. node_at nodes m) o) e ∙ f)

abbrev passes : (TreeNode → Bool) → Numbered → Bool
passes test x = test (node_kind x.1.kind x.1.file)

pub member_among : (nodes : List Numbered) (x : Numbered) → IsNodeAmong x nodes → Among x nodes
member_among [] x m = m
member_among (y ∷ nodes) x m = elim m [ inl e ↦ inl e | inr later ↦ inr (member_among nodes x later) ]

pub among_member : (nodes : List Numbered) (x : Numbered) → Among x nodes → IsNodeAmong x nodes
among_member [] x m = m
among_member (y ∷ nodes) x m = elim m [ inl e ↦ inl e | inr later ↦ inr (among_member nodes x later) ]

-- some path leads to what passes exactly where some node passes
pub leads_is : (nodes : List Numbered) (test : TreeNode → Bool) → IsNodeTable nodes → leads_to (tree_of nodes) test ≡ list_any (passes test) nodes
leads_is nodes test t = same_bool (leads_to (tree_of nodes) test) (list_any (passes test) nodes) there back where
  there : leads_to (tree_of nodes) test ≡ true → list_any (passes test) nodes ≡ true
  there e =
      let k = any_key (tree_of nodes) (λ key. is_tree_entry test (maps.get (tree_of nodes) key)) e in
      let s = shown_node nodes k.0 t k.2 in
      let entry = shows nodes k.0 s.0 s.1 t s.2 s.3 in
      any_of (passes test) nodes (s.0, s.1) (member_among nodes (s.0, s.1) (at_member nodes s.0 s.1 s.3)) (ap (λ (o : Option TreeEntry). is_tree_entry test o) (sym entry) ∙ k.1)

  back : list_any (passes test) nodes ≡ true → leads_to (tree_of nodes) test ≡ true
  back e =
      let x = any_some (passes test) nodes e in
      let at = member_at nodes x.0 t.items.0 (among_member nodes x.0 x.1) in
      let entry = shows nodes (way nodes x.0.0) x.0.0 x.0.1 t (way_leads nodes x.0.0 x.0.1 t at) at in
      key_any (tree_of nodes) (λ key. is_tree_entry test (maps.get (tree_of nodes) key)) (way nodes x.0.0) (ap is_some entry) (ap (λ (o : Option TreeEntry). is_tree_entry test o) entry ∙ x.2)

-- ---- what lies below

pub under_split : (dir path : Path) → is_under dir path ≡ true → (x : Bytes) × (rest : Path) × (path ≡ dir ++ x ∷ rest)
under_split [] [] e = absurd cc
under_split [] (x ∷ path) e = (x, path, refl)
under_split (d ∷ dir) [] e = absurd cc
under_split (d ∷ dir) (x ∷ path) e =
    let parts = and_parts (bytes_eq d x) (is_under dir path) e in
    let more = under_split dir path parts.1 in
    (more.0, more.1, ap (λ (y : Bytes). y ∷ path) (sym ((bytes_eq-Decides d x).0 parts.0)) ∙ ap (λ (p : Path). d ∷ p) more.2)

pub under_of : (dir : Path) (x : Bytes) (rest : Path) → is_under dir (dir ++ x ∷ rest) ≡ true
under_of [] x rest = refl
under_of (d ∷ dir) x rest = rw ((bytes_eq-Decides d d).1 refl) (under_of dir x rest)

abbrev has : ℕ → List ℕ → Bool
has m numbers = list_any (λ k. eqb k m) numbers

first_has : (numbers : List ℕ) → nat_lt 0 (length numbers) ≡ true → (c : ℕ) × (has c numbers ≡ true)
first_has [] e = absurd cc
first_has (c ∷ numbers) e = (c, rw (eq-eqb c c refl) refl)

some_has : (numbers : List ℕ) (c : ℕ) → has c numbers ≡ true → nat_lt 0 (length numbers) ≡ true
some_has [] c e = absurd cc
some_has (x ∷ numbers) c e = lt-ltb 0 (length (x ∷ numbers)) (omega arith)

pub hangs_at : (nodes : List Numbered) (m c : ℕ) → hangs_under nodes m c ≡ true → (node : Node) × (node_at nodes c ≡ Some node) × (node.parent ≡ m)
hangs_at nodes m c e = one (node_at nodes c) refl e where
  one : (o : Option Node) → node_at nodes c ≡ o → has_parent m o ≡ true → (node : Node) × (node_at nodes c ≡ Some node) × (node.parent ≡ m)
  one None f h = absurd cc
  one (Some node) f h = (node, f, eqb-true node.parent m h)

-- a directory has names exactly where its run of the index has numbers
pub entries_are : (nodes : List Numbered) (places : List (Place × ℕ)) (path : Path) (m : ℕ) (b : Bool) → IsNodeTable nodes → IsIndex nodes places → IsStrictlySortedBy place_cmp (keys_of places)
    → number_by nodes 0 (folded_path path) ≡ Some m → b ≡ nat_lt 0 (length (numbers_under places m)) → b ≡ has_entries (tree_of nodes) path
entries_are nodes places path m b t i up at is = is ∙ same_bool (nat_lt 0 (length (numbers_under places m))) (has_entries (tree_of nodes) path) back there where
  there : has_entries (tree_of nodes) path ≡ true → nat_lt 0 (length (numbers_under places m)) ≡ true
  there e =
      let k = any_key (tree_of nodes) (λ key. is_under (folded_path path) key) e in
      let s = shown_node nodes k.0 t k.2 in
      let u = under_split (folded_path path) k.0 k.1 in
      let down : number_by nodes m (u.0 ∷ u.1) ≡ Some s.0 =
      ap (λ (o : Option ℕ). option_and_then (λ n. number_by nodes n (u.0 ∷ u.1)) o) (sym at) ∙ (sym (by_append nodes (folded_path path) (u.0 ∷ u.1) 0) ∙ (ap (λ (p : Path). number_by nodes 0 p) (sym u.2) ∙ s.2)) in
      let step = by_step nodes u.0 u.1 m s.0 down in
      let c = child_found nodes m u.0 step.0 t step.1 in
      let hangs : hangs_under nodes m step.0 ≡ true = ap (λ (o : Option Node). has_parent m o) c.at ∙ eq-eqb c.node.parent m c.parent_is in
      some_has (numbers_under places m) step.0 (under_is nodes places m (numbers_under places m) t i up refl step.0 ∙ hangs)

  back : nat_lt 0 (length (numbers_under places m)) ≡ true → has_entries (tree_of nodes) path ≡ true
  back e =
      let c = first_has (numbers_under places m) e in
      let h = hangs_at nodes m c.0 (sym (under_is nodes places m (numbers_under places m) t i up refl c.0) ∙ c.1) in
      let by : number_by nodes 0 (folded_path path ++ folded h.0.name ∷ []) ≡ Some c.0 =
      by_last nodes (folded_path path) (folded h.0.name) 0 m at ∙ child_at nodes m (folded h.0.name) c.0 t (record { node = h.0; at = h.1; parent_is = h.2; name_is = refl }) in
      key_any (tree_of nodes) (λ key. is_under (folded_path path) key) (folded_path path ++ folded h.0.name ∷ []) (ap is_some (shows nodes (folded_path path ++ folded h.0.name ∷ []) c.0 h.0 t by h.1)) (under_of (folded_path path) (folded h.0.name) [])

-- ---- names of a file

-- each node of the list is the one at its number
pub all_at : (nodes : List Numbered) → Ascend is_before nodes → AllByRecursion (λ (x : Numbered). node_at nodes x.0 ≡ Some x.1) nodes
all_at nodes up = each nodes (λ x m. m) where
  each : (xs : List Numbered) → ((x : Numbered) → IsNodeAmong x xs → IsNodeAmong x nodes) → AllByRecursion (λ (x : Numbered). node_at nodes x.0 ≡ Some x.1) xs
  each [] in_nodes = tt
  each (x ∷ xs) in_nodes = (member_at nodes x up (in_nodes x (inl refl)), each xs (λ y m. in_nodes y (inr m)))

-- the same of a list that is known to be the nodes
pub all_at_of : (now es it : List Numbered) → es ≡ now → it ≡ es → Ascend is_before now → AllByRecursion (λ (x : Numbered). node_at now x.0 ≡ Some x.1) it
all_at_of now es it e f up = subst (λ (xs : List Numbered). AllByRecursion (λ (x : Numbered). node_at now x.0 ≡ Some x.1) xs) (sym (f ∙ e)) (all_at now up)
