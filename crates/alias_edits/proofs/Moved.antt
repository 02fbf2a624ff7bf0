-- The tree of names where a directory has moved.
use Rattle.std.proofs.Common.{◌≡◌, ℕ, ◌+◌, ◌<◌, Bool, true, false, cond, List, [], ◌∷◌, ◌++◌, length, map, Option, Some, None, refl, sym, ap, subst, ◌∙◌, arith, inl, inr, append_assoc, length-append}
use Rattle.std.specs.Prelude.{is_some, ◌&&◌}
use Rattle.std.specs.Cmp.Lexicographic.{slice_cmp}
use Rattle.std.specs.FinMap as maps
use Rattle.std.specs.Ordering.{nat_cmp, is_lt}
use Rattle.std.specs.Cmp.{Equal-is}
use Rattle.std.specs.BTreeMap.{is_at}
use Rattle.std.specs.Option.{option_and_then}
use Rattle.std.specs.declared.cmp.Ordering.{Ordering}
use Rattle.std.specs.declared.cmp.Ordering.TheVariants.{Less, Equal, Greater}
use Rattle.std.proofs.Math.Dec.{T}
use Rattle.std.proofs.lemmas.Bool.{and_parts, true≢false}
use Rattle.std.proofs.lemmas.List.{append-nil}
use Rattle.std.proofs.lemmas.Option.{none-some}
use Rattle.asm_group.specs.declared.NodeKind.{NodeKind}
use Rattle.asm_group.specs.declared.NodeKind.TheVariants.{Directory, System, Alias}
use Rattle.asm_group.specs.Names.{Bytes, Path, folded, folded_path}
use Rattle.asm_group.specs.Group.{TreeEntry, Dir}
use Rattle.asm_group.specs.Causes.{first_cause}
use Rattle.asm_group.specs.TreeEdits as e
use Rattle.asm_group.specs.TreeEdits.{Tree, last_part, up, is_under, moved_key, moved_entry, edit_causes, changed, RenameDir}
use Rattle.asm_formats.specs.Items.{Node}
use Rattle.alias_tree.proofs.asm_base.Exact.{some_is}
use Rattle.alias_edits.specs.Edits.{IsMoved, MovesNode}
use Rattle.alias_tree.specs.Nodes.{Numbered, node_at, with_numbered_node, IsNodeTable, child}
use Rattle.asm_formats.specs.Nodes.{node_kind, entry_of_node}
use Rattle.alias_tree.specs.Trees.{tree_of, number_by}
use Rattle.alias_edits.proofs.Allowed.{number_is}
use Rattle.alias_edits.proofs.Done.{hung_parent}
use Rattle.alias_edits.proofs.Growing.{same_tree}
use Rattle.alias_tree.proofs.IndexLaws.{either, at_self, not_at}
use Rattle.alias_tree.proofs.Keeping.{at_with, new_or_was}
use Rattle.alias_tree.proofs.Leading.{Among, shown_node, shows, under_split, under_of}
use Rattle.alias_edits.proofs.Moving.{RenamesDir, renames_dir}
use Rattle.alias_tree.proofs.Ways.{is_key, key_is, key_self, key_other, paths_total, way, way_is, way_leads, child_found, child_at, by_append, by_last, by_step}

abbrev Entries : Type 0
Entries = List (Path × TreeEntry)

abbrev find : Path → Entries → Option TreeEntry
find q es = maps.find (slice_cmp (slice_cmp nat_cmp)) q es

-- ---- entries of a map

t_true : (b : Bool) → T b → b ≡ true
t_true true h = refl
t_true false h = absurd h

lt_other : (o : Ordering) → is_lt o ≡ true → o ≡ Equal → ⊥
lt_other Less e f = absurd cc
lt_other Equal e f = absurd cc
lt_other Greater e f = absurd cc

-- a key below others isn't one of them
below_apart : (k : Path) (es : Entries) (x : Path × TreeEntry) → maps.is_sorted (slice_cmp (slice_cmp nat_cmp)) ((k, x.1) ∷ es) ≡ true → Among x es → is_key x.0 k ≡ false
below_apart k es x up m = key_other x.0 k (λ z. least es (and_parts (below es) (maps.is_sorted (slice_cmp (slice_cmp nat_cmp)) es) up).0 m z) where
  below : Entries → Bool
  below [] = true
  below (y ∷ ys) = is_lt (slice_cmp (slice_cmp nat_cmp) k y.0) && below ys

  least : (ys : Entries) → below ys ≡ true → Among x ys → x.0 ≡ k → ⊥
  least [] h m z = absurd m
  least (y ∷ ys) h m z =
      let parts = and_parts (is_lt (slice_cmp (slice_cmp nat_cmp) k y.0)) (below ys) h in
      elim m [
        | inl is ↦ lt_other (slice_cmp (slice_cmp nat_cmp) k y.0) parts.0 ((Equal-is (slice_cmp (slice_cmp nat_cmp) k y.0)).0 (subst (λ (w : Path). is_key k w ≡ true) (sym z ∙ ap (λ (w : Path × TreeEntry). w.0) is) (key_self k)))
        | inr later ↦ least ys parts.1 later z
      ]

-- each entry of a sorted list is found by its key
entry_found : (es : Entries) (x : Path × TreeEntry) → maps.is_sorted (slice_cmp (slice_cmp nat_cmp)) es ≡ true → Among x es → find x.0 es ≡ Some x.1
entry_found [] x up m = absurd m
entry_found (y ∷ es) x up m = elim m [
  | inl is ↦ subst (λ (w : Path × TreeEntry). find w.0 (y ∷ es) ≡ Some w.1) (sym is) (rw (key_self y.0) refl)
  | inr later ↦ rw (below_apart y.0 es x up later) (entry_found es x (tail_up y es up) later)
] where
  tail_up : (y : Path × TreeEntry) (es : Entries) → maps.is_sorted (slice_cmp (slice_cmp nat_cmp)) (y ∷ es) ≡ true → maps.is_sorted (slice_cmp (slice_cmp nat_cmp)) es ≡ true
  tail_up y es up = (and_parts _ (maps.is_sorted (slice_cmp (slice_cmp nat_cmp)) es) up).1

entry_got : (t : Tree) (x : Path × TreeEntry) → Among x (maps.entries t) → maps.get t x.0 ≡ Some x.1
entry_got t x m = maps.get-entries t x.0 ∙ entry_found (maps.entries t) x (t_true (maps.is_sorted (slice_cmp (slice_cmp nat_cmp)) (maps.entries t)) (maps.entries_sorted t)) m

-- what is found under a key is an entry of that key
found_among : (es : Entries) (q : Path) (x : TreeEntry) → find q es ≡ Some x → Among (q, x) es
found_among [] q x h = absurd (none-some x h)
found_among (y ∷ es) q x h = elim (either (is_key q y.0)) [
  | inl hit ↦ let v : y.1 ≡ x = some_is y.1 x (rw hit at h) in inl (ap (λ (p : Path). (p, x)) (key_is q y.0 hit) ∙ ap (λ (w : TreeEntry). (y.0, w)) (sym v))
  | inr miss ↦ inr (found_among es q x (rw miss at h))
]

mapped : (f : Path × TreeEntry → Path × TreeEntry) (es : Entries) (x : Path × TreeEntry) → Among x (map f es) → (y : Path × TreeEntry) × Among y es × (x ≡ f y)
mapped f [] x m = absurd m
mapped f (y ∷ es) x m = elim m [
  | inl is ↦ (y, inl refl, is)
  | inr later ↦ let z = mapped f es x later in (z.0, inr z.1, z.2)
]

-- a key that is among the keys is found
found_some : (es : Entries) (x : Path × TreeEntry) → Among x es → (w : TreeEntry) × (find x.0 es ≡ Some w)
found_some [] x m = absurd m
found_some (y ∷ es) x m = elim (either (is_key x.0 y.0)) [
  | inl hit ↦ (y.1, rw hit refl)
  | inr miss ↦ elim m [
    | inl is ↦ absurd (true≢false (sym (subst (λ (w : Path × TreeEntry). is_key x.0 w.0 ≡ true) is (key_self x.0)) ∙ miss))
    | inr later ↦ let z = found_some es x later in (z.0, rw miss z.1)
  ]
]

among_map : (f : Path × TreeEntry → Path × TreeEntry) (es : Entries) (x : Path × TreeEntry) → Among x es → Among (f x) (map f es)
among_map f [] x m = absurd m
among_map f (y ∷ es) x m = elim m [ inl is ↦ inl (ap f is) | inr later ↦ inr (among_map f es x later) ]

-- ---- keys that move

moved_below : (old new : Path) (x : Bytes) (rest : Path) → moved_key old new (old ++ x ∷ rest) ≡ new ++ x ∷ rest
moved_below [] new x rest = refl
moved_below (d ∷ old) new x rest = moved_below old new x rest

abbrev to_key : Path → Path → Path → Path
to_key old new k = cond (is_under old k) (moved_key old new k) k

moved_is : (old new : Path) (x : Path × TreeEntry) → moved_entry old new x ≡ (to_key old new x.0, x.1)
moved_is old new x = one (is_under old x.0) where
  one : (b : Bool) → cond {A = Path × TreeEntry} b (moved_key old new x.0, x.1) (x.0, x.1) ≡ (cond b (moved_key old new x.0) x.0, x.1)
  one true = refl
  one false = refl

two_maybe : {A : Type 0} (o u : Option A) → ((x : A) → o ≡ Some x → u ≡ Some x) → ((x : A) → u ≡ Some x → o ≡ Some x) → o ≡ u
two_maybe None None f g = refl
two_maybe None (Some x) f g = g x refl
two_maybe (Some x) u f g = sym (f x refl)

-- ---- a moved directory

pub moved_tree : (nodes : List Numbered) (from to : Path) (n : ℕ) (node : Node) → IsNodeTable nodes → IsNodeTable (with_numbered_node nodes n node) → RenamesDir nodes from to → IsMoved nodes from to n node
    → tree_of (with_numbered_node nodes n node) ≡ changed (tree_of nodes) (RenameDir from to)
moved_tree nodes from to n node t u may moved = same_tree (tree_of (with_numbered_node nodes n node)) (changed (tree_of nodes) (RenameDir from to)) (λ q. two_maybe (maps.get (tree_of (with_numbered_node nodes n node)) q) (maps.get (changed (tree_of nodes) (RenameDir from to)) q) (there q) (back q)) where
  -- the old key and the new one
  at : number_by nodes 0 (folded_path from) ≡ Some n
  at = sym (number_is nodes from) ∙ moved.at

  same : (k : ℕ) → is_at (nat_cmp n) k ≡ false → node_at (with_numbered_node nodes n node) k ≡ node_at nodes k
  same k miss = at_with nodes n node k ∙ rw miss refl

  here : node_at (with_numbered_node nodes n node) n ≡ Some node
  here = at_with nodes n node n ∙ rw (at_self n) refl

  -- a way from a to m that doesn't come by the directory stays
  stays : (q before : Path) (a m : ℕ) → number_by nodes 0 before ≡ Some a → number_by nodes a q ≡ Some m → is_under (folded_path from) (before ++ q) ≡ false → (before ++ q ≡ folded_path from → ⊥) → number_by (with_numbered_node nodes n node) a q ≡ Some m
  stays [] before a m there e outside other = e
  stays (y ∷ q) before a m there e outside other =
      let s = by_step nodes y q a m e in
      let c = child_found nodes a y s.0 t s.1 in
      let key : number_by nodes 0 (before ++ y ∷ []) ≡ Some s.0 = by_last nodes before y 0 a there ∙ s.1 in
      let further : before ++ y ∷ q ≡ (before ++ y ∷ []) ++ q = sym (append_assoc before (y ∷ []) q) in
      let apart : n ≡ s.0 → ⊥ = λ z.
      let is : folded_path from ≡ before ++ y ∷ [] = sym (way_is nodes (folded_path from) n t at) ∙ (ap (λ (i : ℕ). way nodes i) z ∙ way_is nodes (before ++ y ∷ []) s.0 t key) in
      past (before ++ y ∷ []) q (sym is) (ap (λ (w : Path). is_under (folded_path from) w) (sym further) ∙ outside) (λ w. other (further ∙ w)) in
      let step : child (with_numbered_node nodes n node) a y ≡ Some s.0 = child_at (with_numbered_node nodes n node) a y s.0 u (record { node = c.node; at = same s.0 (not_at n s.0 apart) ∙ c.at; parent_is = c.parent_is; name_is = c.name_is }) in
      let more = stays q (before ++ y ∷ []) s.0 m key s.2 (ap (λ (w : Path). is_under (folded_path from) w) (sym further) ∙ outside) (λ w. other (further ∙ w)) in
      ap (λ (o : Option ℕ). option_and_then (λ i. number_by (with_numbered_node nodes n node) i q) o) step ∙ more
    where
      past : (b q : Path) → b ≡ folded_path from → is_under (folded_path from) (b ++ q) ≡ false → (b ++ q ≡ folded_path from → ⊥) → ⊥
      past b [] is outside other = other (append-nil b ∙ is)
      past b (z ∷ q) is outside other = true≢false (sym (subst (λ (w : Path). is_under (folded_path from) (w ++ z ∷ q) ≡ true) (sym is) (under_of (folded_path from) z q)) ∙ outside)

  -- a way that begins below the directory stays
  below : (q down : Path) (a m : ℕ) → number_by nodes n down ≡ Some a → number_by nodes a q ≡ Some m → number_by (with_numbered_node nodes n node) a q ≡ Some m
  below [] down a m there e = e
  below (y ∷ q) down a m there e =
      let s = by_step nodes y q a m e in
      let c = child_found nodes a y s.0 t s.1 in
      let lower : number_by nodes n (down ++ y ∷ []) ≡ Some s.0 = by_last nodes down y n a there ∙ s.1 in
      let apart : n ≡ s.0 → ⊥ = λ z. longer (down ++ y ∷ []) (some_length down y) (lower ∙ ap (λ (i : ℕ). Some i) (sym z)) in
      let step : child (with_numbered_node nodes n node) a y ≡ Some s.0 = child_at (with_numbered_node nodes n node) a y s.0 u (record { node = c.node; at = same s.0 (not_at n s.0 apart) ∙ c.at; parent_is = c.parent_is; name_is = c.name_is }) in
      ap (λ (o : Option ℕ). option_and_then (λ i. number_by (with_numbered_node nodes n node) i q) o) step ∙ below q (down ++ y ∷ []) s.0 m lower s.2
    where
      some_length : (d : Path) (z : Bytes) → 0 < length (d ++ z ∷ [])
      some_length [] z = omega arith
      some_length (x ∷ d) z = omega arith

      -- no way leads from the directory to itself
      longer : (d : Path) → 0 < length d → number_by nodes n d ≡ Some n → ⊥
      longer d some e =
          let round : number_by nodes 0 (folded_path from ++ d) ≡ Some n = by_append nodes (folded_path from) d 0 ∙ (ap (λ (o : Option ℕ). option_and_then (λ i. number_by nodes i d) o) at ∙ e) in
          let is : folded_path from ++ d ≡ folded_path from = sym (way_is nodes (folded_path from ++ d) n t round) ∙ way_is nodes (folded_path from) n t at in
          let count : length (folded_path from) + length d ≡ length (folded_path from) = sym (length-append (folded_path from) d) ∙ ap (λ (w : Path). length w) is in
          absurd (omega arith)

  -- the directory at its new path
  above : number_by (with_numbered_node nodes n node) 0 (folded_path (up to)) ≡ Some may.free.parent
  above = stays (folded_path (up to)) [] 0 may.free.parent refl may.free.above (front (folded_path (up to)) (folded_path from) refl) (λ w. beyond w) where
    key : is_under (folded_path from) (folded_path (up to) ++ folded (last_part to) ∷ []) ≡ false
    key = ap (λ (w : Path). is_under (folded_path from) w) (sym may.free.key) ∙ may.outside

    beyond : folded_path (up to) ≡ folded_path from → ⊥
    beyond w = true≢false (sym (subst (λ (d : Path). is_under (folded_path from) (d ++ folded (last_part to) ∷ []) ≡ true) (sym w) (under_of (folded_path from) (folded (last_part to)) [])) ∙ key)

    front : (w d : Path) → d ≡ folded_path from → is_under (folded_path from) (folded_path (up to)) ≡ false
    front w d is = elim (either (is_under (folded_path from) (folded_path (up to)))) [
      | inr out ↦ out
      | inl low ↦
          let s = under_split (folded_path from) (folded_path (up to)) low in
          let longer : folded_path (up to) ++ folded (last_part to) ∷ [] ≡ folded_path from ++ s.0 ∷ (s.1 ++ folded (last_part to) ∷ []) = ap (λ (z : Path). z ++ folded (last_part to) ∷ []) s.2 ∙ append_assoc (folded_path from) (s.0 ∷ s.1) (folded (last_part to) ∷ []) in
          absurd (true≢false (sym (ap (λ (z : Path). is_under (folded_path from) z) longer ∙ under_of (folded_path from) s.0 (s.1 ++ folded (last_part to) ∷ [])) ∙ key))
    ]

  arrived : number_by (with_numbered_node nodes n node) 0 (folded_path to) ≡ Some n
  arrived = ap (λ (w : Path). number_by (with_numbered_node nodes n node) 0 w) may.free.key ∙ (by_last (with_numbered_node nodes n node) (folded_path (up to)) (folded (last_part to)) 0 may.free.parent above
      ∙ child_at (with_numbered_node nodes n node) may.free.parent (folded (last_part to)) n u (record { node = node; at = here; parent_is = sym (hung_parent nodes to node may.free moved.hangs); name_is = ap folded moved.hangs.name }))

  -- each other node is found under its key, which moves where it lies below
  leads : (k : Path) (m : ℕ) → number_by nodes 0 k ≡ Some m → (k ≡ folded_path from → ⊥) → number_by (with_numbered_node nodes n node) 0 (to_key (folded_path from) (folded_path to) k) ≡ Some m
  leads k m e other = elim (either (is_under (folded_path from) k)) [
    | inr out ↦ rw out (stays k [] 0 m refl e out other)
    | inl low ↦
        let s = under_split (folded_path from) k low in
        let deep : number_by nodes n (s.0 ∷ s.1) ≡ Some m =
        ap (λ (o : Option ℕ). option_and_then (λ i. number_by nodes i (s.0 ∷ s.1)) o) (sym at) ∙ (sym (by_append nodes (folded_path from) (s.0 ∷ s.1) 0) ∙ (ap (λ (w : Path). number_by nodes 0 w) (sym s.2) ∙ e)) in
        let now : number_by (with_numbered_node nodes n node) n (s.0 ∷ s.1) ≡ Some m = below (s.0 ∷ s.1) [] n m refl deep in
        let key : moved_key (folded_path from) (folded_path to) k ≡ folded_path to ++ s.0 ∷ s.1 = ap (λ (w : Path). moved_key (folded_path from) (folded_path to) w) s.2 ∙ moved_below (folded_path from) (folded_path to) s.0 s.1 in
        rw low (ap (λ (w : Path). number_by (with_numbered_node nodes n node) 0 w) key
        ∙ (by_append (with_numbered_node nodes n node) (folded_path to) (s.0 ∷ s.1) 0 ∙ (ap (λ (o : Option ℕ). option_and_then (λ i. number_by (with_numbered_node nodes n node) i (s.0 ∷ s.1)) o) arrived ∙ now)))
  ]

  others : Entries
  others = maps.entries (maps.remove (tree_of nodes) (folded_path from))

  moves : Path × TreeEntry → Path × TreeEntry
  moves x = moved_entry (folded_path from) (folded_path to) x

  at_new : TreeEntry
  at_new = record { name = last_part to; node = Dir }

  got : (q : Path) → maps.get (changed (tree_of nodes) (RenameDir from to)) q ≡ cond (is_key q (folded_path to)) (Some at_new) (find q (map moves others))
  got q = maps.get-insert paths_total (maps.from_entries (map moves others)) (folded_path to) at_new q ∙ ap (λ (o : Option TreeEntry). cond (is_key q (folded_path to)) (Some at_new) o) (maps.get-from_entries paths_total (map moves others) q)

  -- an entry of the others is that of a node, which is another
  other_entry : (x : Path × TreeEntry) → Among x others → (m : ℕ) × (y : Node) × (number_by nodes 0 x.0 ≡ Some m) × (node_at nodes m ≡ Some y) × (x.1 ≡ entry_of_node y) × (x.0 ≡ folded_path from → ⊥)
  other_entry x i =
      let g = sym (maps.get-remove paths_total (tree_of nodes) (folded_path from) x.0) ∙ entry_got (maps.remove (tree_of nodes) (folded_path from)) x i in
      elim (either (is_key x.0 (folded_path from))) [
        | inl hit ↦ absurd (none-some x.1 (rw hit at g))
        | inr miss ↦
            let h : maps.get (tree_of nodes) x.0 ≡ Some x.1 = rw miss at g in
            let s = shown_node nodes x.0 t (ap is_some h) in
            (s.0, s.1, s.2, s.3, some_is x.1 (entry_of_node s.1) (sym h ∙ shows nodes x.0 s.0 s.1 t s.2 s.3), λ z. true≢false (sym (subst (λ (w : Path). is_key x.0 w ≡ true) z (key_self x.0)) ∙ miss))
      ]

  -- a node that isn't the directory is among the others
  among_others : (m : ℕ) (y : Node) → node_at nodes m ≡ Some y → (m ≡ n → ⊥) → Among (way nodes m, entry_of_node y) others
  among_others m y e apart =
      let by = way_leads nodes m y t e in
      let miss : is_key (way nodes m) (folded_path from) ≡ false = key_other (way nodes m) (folded_path from) (λ z. apart (some_is m n (sym by ∙ (ap (λ (w : Path). number_by nodes 0 w) z ∙ at)))) in
      found_among others (way nodes m) (entry_of_node y) (sym (maps.get-entries (maps.remove (tree_of nodes) (folded_path from)) (way nodes m)) ∙ (maps.get-remove paths_total (tree_of nodes) (folded_path from) (way nodes m) ∙ rw miss (shows nodes (way nodes m) m y t by e)))

  -- what is found among the moved ones is what stands among the nodes
  found : (q : Path) (w : TreeEntry) → find q (map moves others) ≡ Some w → maps.get (tree_of (with_numbered_node nodes n node)) q ≡ Some w
  found q w h =
      let x = mapped moves others (q, w) (found_among (map moves others) q w h) in
      let o = other_entry x.0 x.1 in
      let is = x.2 ∙ moved_is (folded_path from) (folded_path to) x.0 in
      let key : q ≡ to_key (folded_path from) (folded_path to) x.0.0 = ap (λ (z : Path × TreeEntry). z.0) is in
      let value : w ≡ entry_of_node o.1 = ap (λ (z : Path × TreeEntry). z.1) is ∙ o.4 in
      let by : number_by (with_numbered_node nodes n node) 0 q ≡ Some o.0 = ap (λ (z : Path). number_by (with_numbered_node nodes n node) 0 z) key ∙ leads x.0.0 o.0 o.2 o.5 in
      let apart : n ≡ o.0 → ⊥ = λ z. o.5 (sym (way_is nodes x.0.0 o.0 t o.2) ∙ (ap (λ (i : ℕ). way nodes i) (sym z) ∙ way_is nodes (folded_path from) n t at)) in
      shows (with_numbered_node nodes n node) q o.0 o.1 u by (same o.0 (not_at n o.0 apart) ∙ o.3) ∙ ap (λ (z : TreeEntry). Some z) (sym value)

  new_entry : entry_of_node node ≡ at_new
  new_entry = ap (λ (x : Bytes). named x node.kind node.file) moved.hangs.name ∙ ap (λ (k : NodeKind). named (last_part to) k node.file) kind where
    named : Bytes → NodeKind → ℕ → TreeEntry
    named name kind file = record { name = name; node = node_kind kind file }

    of_kind : (k : NodeKind) → e.is_dir_node (node_kind k moved.was.file) ≡ true → k ≡ Directory
    of_kind Directory d = refl
    of_kind System d = absurd (true≢false (sym d))
    of_kind Alias d = absurd (true≢false (sym d))

    kind : node.kind ≡ Directory
    kind = moved.kind_is ∙ of_kind moved.was.kind (ap e.is_dir_entry (sym (shows nodes (folded_path from) n moved.was t at moved.was_at)) ∙ may.dir)

  there : (q : Path) (w : TreeEntry) → maps.get (tree_of (with_numbered_node nodes n node)) q ≡ Some w → maps.get (changed (tree_of nodes) (RenameDir from to)) q ≡ Some w
  there q w h =
      let s = shown_node (with_numbered_node nodes n node) q u (ap is_some h) in
      let value : entry_of_node s.1 ≡ w = some_is (entry_of_node s.1) w (sym (shows (with_numbered_node nodes n node) q s.0 s.1 u s.2 s.3) ∙ h) in
      got q ∙ elim (new_or_was nodes n node s.0 s.1 s.3) [
        | inl (z, is) ↦
            let key : q ≡ folded_path to = sym (way_is (with_numbered_node nodes n node) q n u (s.2 ∙ ap (λ (i : ℕ). Some i) z)) ∙ way_is (with_numbered_node nodes n node) (folded_path to) n u arrived in
            let hit : is_key q (folded_path to) ≡ true = subst (λ (k : Path). is_key q k ≡ true) key (key_self q) in
            rw hit (ap (λ (x : TreeEntry). Some x) (sym new_entry ∙ (ap entry_of_node (sym is) ∙ value)))
        | inr (apart, g) ↦
            let by = way_leads nodes s.0 s.1 t g in
            let from_other : way nodes s.0 ≡ folded_path from → ⊥ = λ z. apart (some_is s.0 n (sym by ∙ (ap (λ (k : Path). number_by nodes 0 k) z ∙ at))) in
            let key : to_key (folded_path from) (folded_path to) (way nodes s.0) ≡ q = sym (way_is (with_numbered_node nodes n node) (to_key (folded_path from) (folded_path to) (way nodes s.0)) s.0 u (leads (way nodes s.0) s.0 by from_other)) ∙ way_is (with_numbered_node nodes n node) q s.0 u s.2 in
            let miss : is_key q (folded_path to) ≡ false = key_other q (folded_path to) (λ z. apart (some_is s.0 n (sym s.2 ∙ (ap (λ (k : Path). number_by (with_numbered_node nodes n node) 0 k) z ∙ arrived)))) in
            let in_map : Among (moves (way nodes s.0, entry_of_node s.1)) (map moves others) = among_map moves others (way nodes s.0, entry_of_node s.1) (among_others s.0 s.1 g apart) in
            let is : moves (way nodes s.0, entry_of_node s.1) ≡ (q, entry_of_node s.1) = moved_is (folded_path from) (folded_path to) (way nodes s.0, entry_of_node s.1) ∙ ap (λ (k : Path). (k, entry_of_node s.1)) key in
            let f = found_some (map moves others) (q, entry_of_node s.1) (subst (λ (x : Path × TreeEntry). Among x (map moves others)) is in_map) in
            let one : f.0 ≡ w = some_is f.0 w (sym (found q f.0 f.1) ∙ h) in
            rw miss (f.1 ∙ ap (λ (x : TreeEntry). Some x) one)
      ]

  back : (q : Path) (w : TreeEntry) → maps.get (changed (tree_of nodes) (RenameDir from to)) q ≡ Some w → maps.get (tree_of (with_numbered_node nodes n node)) q ≡ Some w
  back q w h =
      let g = sym (got q) ∙ h in
      elim (either (is_key q (folded_path to))) [
        | inl hit ↦
            let value : at_new ≡ w = some_is at_new w (rw hit at g) in
            ap (λ (k : Path). maps.get (tree_of (with_numbered_node nodes n node)) k) (key_is q (folded_path to) hit) ∙ (shows (with_numbered_node nodes n node) (folded_path to) n node u arrived here ∙ ap (λ (x : TreeEntry). Some x) (new_entry ∙ value))
        | inr miss ↦ found q w (rw miss at g)
      ]

-- the tree after the move, where the node has moved
pub rename_dir_tree : (nodes new : List Numbered) (from to : Path) → IsNodeTable nodes → IsNodeTable new → first_cause (edit_causes (tree_of nodes) (RenameDir from to)) ≡ None → MovesNode nodes new from to → tree_of new ≡ changed (tree_of nodes) (RenameDir from to)
rename_dir_tree nodes new from to t u none p = ap tree_of p.after ∙ moved_tree nodes from to p.number p.node t (subst IsNodeTable p.after u) (renames_dir nodes from to t none) p.moved
