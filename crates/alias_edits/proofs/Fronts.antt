-- Which directories of a path are there, and what that says of the tree of names.
use Rattle.std.proofs.Common.{◌≡◌, ℕ, ◌+◌, ◌<◌, ◌≤◌, Bool, true, false, eqb, List, [], ◌∷◌, ◌++◌, length, take, drop, get_or, Option, Some, None, refl, sym, ap, subst, ◌∙◌, arith, inl, inr, take-suc, drop-cons, add-one}
use Rattle.std.specs.Prelude.{is_some, not, ◌&&◌, ◌||◌}
use Rattle.std.specs.Option.{option_and_then, option_map}
use Rattle.std.proofs.Math.Seq.{take-length}
use Rattle.std.proofs.lemmas.Bool.{true≢false, eqb-true, eq-eqb, cases_lt}
use Rattle.std.proofs.lemmas.List.{map-append, take-append-drop, get_or_default, drop_all}
use Rattle.std.proofs.lemmas.Option.{none-some}
use Rattle.asm_group.specs.Names.{Bytes, Path, folded, folded_path}
use Rattle.asm_group.specs.Refusal as r
use Rattle.asm_group.specs.Causes.{first_cause}
use Rattle.asm_group.specs.TreeEdits.{Tree, up, last_part, is_root, is_there, is_dir, is_dir_entry}
use Rattle.asm_formats.specs.Items.{Node}
use Rattle.asm_formats.specs.Nodes.{entry_of_node}
use Rattle.alias_tree.proofs.asm_base.Exact.{some_is}
use Rattle.alias_edits.specs.Filing.{missing_dirs, with_dir, with_dirs, is_no_dir, has_no_dir, has_file_above, file_causes, may_hang, ReachesDirectory, IsFront, IsFree}
use Rattle.alias_tree.specs.Nodes.{Numbered, node_at, child, is_directory, IsNodeTable}
use Rattle.alias_tree.specs.Trees.{tree_of, number_by}
use Rattle.alias_edits.proofs.Allowed.{number_there, dir_node, folded_last}
use Rattle.alias_tree.proofs.Lookups.{not_root, root_is}
use Rattle.alias_tree.proofs.IndexLaws.{either}
use Rattle.alias_tree.proofs.Keeping.{MayHang, parent_there}
use Rattle.alias_tree.proofs.Leading.{shows}
use Rattle.alias_tree.proofs.Paths.{entry_is}
use Rattle.alias_tree.proofs.Ways.{by_append, by_last, child_found, no_root}

-- ---- a part more

pub folded_more : (front : Path) (x : Bytes) → folded_path (front ++ x ∷ []) ≡ folded_path front ++ folded x ∷ []
folded_more front x = map-append folded front (x ∷ [])

pub more_root : (front : Path) (x : Bytes) → is_root (front ++ x ∷ []) ≡ false
more_root [] x = not_root x []
more_root (y ∷ front) x = not_root y (front ++ x ∷ [])

-- where a path with a part more leads
pub number_more : (nodes : List Numbered) (front : Path) (x : Bytes) (a : ℕ) → number_by nodes 0 (folded_path front) ≡ Some a → number_by nodes 0 (folded_path (front ++ x ∷ [])) ≡ child nodes a (folded x)
number_more nodes front x a at = ap (λ (p : Path). number_by nodes 0 p) (folded_more front x) ∙ by_last nodes (folded_path front) (folded x) 0 a at

pub number_none : (nodes : List Numbered) (front : Path) (x : Bytes) → number_by nodes 0 (folded_path front) ≡ None → number_by nodes 0 (folded_path (front ++ x ∷ [])) ≡ None
number_none nodes front x none =
    ap (λ (p : Path). number_by nodes 0 p) (folded_more front x)
    ∙ (by_append nodes (folded_path front) (folded x ∷ []) 0 ∙ ap (λ (o : Option ℕ). option_and_then (λ m. number_by nodes m (folded x ∷ [])) o) none)

pub take_more : (i : ℕ) (xs : List Bytes) (d : Bytes) → i < length xs → take (i + 1) xs ≡ take i xs ++ get_or xs i d ∷ []
take_more i xs d h = ap (λ (k : ℕ). take k xs) (add-one i) ∙ take-suc xs i d h

pub drop_first : (i : ℕ) (xs : List Bytes) (d : Bytes) → i < length xs → drop i xs ≡ get_or xs i d ∷ drop (i + 1) xs
drop_first i xs d h = drop-cons xs i d h ∙ (rw add-one refl)

-- ---- what is there

-- nothing is at a path that leads nowhere
pub absent : (nodes : List Numbered) (path : Path) → IsNodeTable nodes → is_root path ≡ false → number_by nodes 0 (folded_path path) ≡ None → is_there (tree_of nodes) path ≡ false
absent nodes path t root none = rw root (ap is_some (entry_is nodes path t ∙ ap (λ (o : Option ℕ). option_map entry_of_node (option_and_then (λ n. node_at nodes n) o)) none))

-- the node at the end of a path that isn't the root's
pub node_of_path : (nodes : List Numbered) (path : Path) (a : ℕ) → IsNodeTable nodes → is_root path ≡ false → number_by nodes 0 (folded_path path) ≡ Some a → (x : Node) × (node_at nodes a ≡ Some x)
node_of_path nodes path a t root at = one (number_by nodes 0 (folded_path (up path))) refl where
  split : number_by nodes 0 (folded_path (up path) ++ folded (last_part path) ∷ []) ≡ Some a
  split = ap (λ (p : Path). number_by nodes 0 p) (sym (folded_last path root)) ∙ at

  one : (o : Option ℕ) → number_by nodes 0 (folded_path (up path)) ≡ o → (x : Node) × (node_at nodes a ≡ Some x)
  one None e = absurd (none-some a (sym (by_append nodes (folded_path (up path)) (folded (last_part path) ∷ []) 0 ∙ ap (λ (o : Option ℕ). option_and_then (λ m. number_by nodes m (folded (last_part path) ∷ [])) o) e) ∙ split))
  one (Some p) e =
      let c = child_found nodes p (folded (last_part path)) a t (sym (by_last nodes (folded_path (up path)) (folded (last_part path)) 0 p e) ∙ split) in
      (c.node, c.at)

no_dir_of : (there dir : Bool) → dir ≡ true → (there && not dir) ≡ false
no_dir_of true true e = refl
no_dir_of false true e = refl
no_dir_of there false e = absurd (true≢false (sym e))

or_none : (a b : Bool) → a ≡ false → b ≡ false → (a || b) ≡ false
or_none a b e f = rw e f

and_none : (a b : Bool) → a ≡ false → (a && b) ≡ false
and_none a b e = rw e refl

-- Below a directory names may hang, and below no other name.
pub no_dir_is : (nodes : List Numbered) (path : Path) (a : ℕ) → IsNodeTable nodes → number_by nodes 0 (folded_path path) ≡ Some a → is_no_dir (tree_of nodes) path ≡ not (may_hang nodes a)
no_dir_is nodes path a t at = elim (either (is_root path)) [
  | inl root ↦
      let zero : a ≡ 0 = some_is a 0 (sym at ∙ ap (λ (q : Path). number_by nodes 0 (folded_path q)) (root_is path root)) in
      rw (root, eq-eqb a 0 zero) refl
  | inr root ↦
      let x = node_of_path nodes path a t root at in
      let there : is_there (tree_of nodes) path ≡ true = number_there nodes path a x.0 t at x.1 in
      let dir : is_dir (tree_of nodes) path ≡ is_directory x.0 = rw root (ap is_dir_entry (shows nodes (folded_path path) a x.0 t at x.1) ∙ dir_node x.0) in
      let zero : eqb a 0 ≡ false = elim (either (eqb a 0)) [
        | inr other ↦ other
        | inl held ↦ absurd (none-some x.0 (sym (no_root nodes t) ∙ (ap (λ (k : ℕ). node_at nodes k) (sym (eqb-true a 0 held)) ∙ x.1)))
      ] in
      let may : may_hang nodes a ≡ is_directory x.0 = rw (zero, x.1) (dir_node x.0) in
      rw (there, dir, may) refl
]

-- where names may hang, as the rule of the table has it
pub may_is : (nodes : List Numbered) (a : ℕ) → may_hang nodes a ≡ true → MayHang nodes a
may_is nodes a e = elim (either (eqb a 0)) [
  | inl held ↦ inl (eqb-true a 0 held)
  | inr other ↦ inr (one (node_at nodes a) refl (rw other at e))
] where
  one : (o : Option Node) → node_at nodes a ≡ o → is_dir_entry (option_map entry_of_node o) ≡ true → (above : Node) × (node_at nodes a ≡ Some above) × (is_directory above ≡ true)
  one None f h = absurd (true≢false (sym h))
  one (Some x) f h = (x, f, sym (dir_node x) ∙ h)

-- below which a node hangs, names may
parent_may : (nodes : List Numbered) (a : ℕ) (name : Bytes) (m : ℕ) → IsNodeTable nodes → child nodes a name ≡ Some m → may_hang nodes a ≡ true
parent_may nodes a name m t e =
    let c = child_found nodes a name m t e in
    elim (parent_there nodes m c.node t c.at) [
      | inl z ↦ rw (eq-eqb a 0 (sym c.parent_is ∙ z)) refl
      | inr (above, f) ↦
          let g : node_at nodes a ≡ Some above = ap (λ (k : ℕ). node_at nodes k) (sym c.parent_is) ∙ f in
          let dir : is_directory above ≡ true = t.rule.parents m c.node above c.at f in
          one (eqb a 0) (ap (λ (o : Option Node). is_dir_entry (option_map entry_of_node o)) g ∙ (dir_node above ∙ dir))
    ]
  where
    one : (b : Bool) → is_dir_entry (option_map entry_of_node (node_at nodes a)) ≡ true → (b || is_dir_entry (option_map entry_of_node (node_at nodes a))) ≡ true
    one true h = refl
    one false h = h

-- no name below a path that leads nowhere is there
none_below : (nodes : List Numbered) (front rest : Path) → IsNodeTable nodes → number_by nodes 0 (folded_path front) ≡ None → has_no_dir (tree_of nodes) front rest ≡ false
none_below nodes front [] t none = refl
none_below nodes front (x ∷ rest) t none =
    let more = number_none nodes front x none in
    or_none (is_no_dir (tree_of nodes) (front ++ x ∷ [])) (has_no_dir (tree_of nodes) (front ++ x ∷ []) rest)
    (and_none (is_there (tree_of nodes) (front ++ x ∷ [])) (not (is_dir (tree_of nodes) (front ++ x ∷ []))) (absent nodes (front ++ x ∷ []) t (more_root front x) more))
    (none_below nodes (front ++ x ∷ []) rest t more)

leads_nowhere : (nodes : List Numbered) (front rest : Path) → number_by nodes 0 (folded_path front) ≡ None → number_by nodes 0 (folded_path (front ++ rest)) ≡ None
leads_nowhere nodes front rest none =
    ap (λ (p : Path). number_by nodes 0 p) (map-append folded front rest)
    ∙ (by_append nodes (folded_path front) (folded_path rest) 0 ∙ ap (λ (o : Option ℕ). option_and_then (λ m. number_by nodes m (folded_path rest)) o) none)

-- ---- the walk down

pub reach_none : (nodes : List Numbered) (dirs : Path) → ReachesDirectory nodes dirs 0 0
reach_none nodes dirs = record { at = refl; no_dir = refl; missing = refl; made = refl }

pub reach_more : (nodes : List Numbered) (dirs : Path) (i a m : ℕ) (part : Bytes) → IsNodeTable nodes → ReachesDirectory nodes dirs i a → i < length dirs → part ≡ get_or dirs i part → child nodes a (folded part) ≡ Some m → ReachesDirectory nodes dirs (i + 1) m
reach_more nodes dirs i a m part t r h is c = record { at = ap (λ (p : Path). number_by nodes 0 (folded_path p)) front ∙ at; no_dir = no_dir; missing = missing; made = made } where
  front : take (i + 1) dirs ≡ take i dirs ++ part ∷ []
  front = take_more i dirs part h ∙ ap (λ (x : Bytes). take i dirs ++ x ∷ []) (sym is)

  left : drop i dirs ≡ part ∷ drop (i + 1) dirs
  left = drop_first i dirs part h ∙ ap (λ (x : Bytes). x ∷ drop (i + 1) dirs) (sym is)

  at : number_by nodes 0 (folded_path (take i dirs ++ part ∷ [])) ≡ Some m
  at = number_more nodes (take i dirs) part a r.at ∙ c

  there : is_there (tree_of nodes) (take i dirs ++ part ∷ []) ≡ true
  there = let k = child_found nodes a (folded part) m t c in number_there nodes (take i dirs ++ part ∷ []) m k.node t at k.at

  dir : is_no_dir (tree_of nodes) (take i dirs) ≡ false
  dir = no_dir_is nodes (take i dirs) a t r.at ∙ ap not (parent_may nodes a (folded part) m t c)

  no_dir : (is_no_dir (tree_of nodes) (take (i + 1) dirs) || has_no_dir (tree_of nodes) (take (i + 1) dirs) (drop (i + 1) dirs)) ≡ has_no_dir (tree_of nodes) [] dirs
  no_dir =
      ap (λ (p : Path). is_no_dir (tree_of nodes) p || has_no_dir (tree_of nodes) p (drop (i + 1) dirs)) front
      ∙ (sym (ap (λ (b : Bool). b || has_no_dir (tree_of nodes) (take i dirs) (drop i dirs)) dir ∙ ap (λ (q : Path). has_no_dir (tree_of nodes) (take i dirs) q) left) ∙ r.no_dir)

  here : missing_dirs (tree_of nodes) (take i dirs) (part ∷ drop (i + 1) dirs) ≡ missing_dirs (tree_of nodes) (take i dirs ++ part ∷ []) (drop (i + 1) dirs)
  here = rw there (omega arith)

  missing : missing_dirs (tree_of nodes) (take (i + 1) dirs) (drop (i + 1) dirs) ≡ missing_dirs (tree_of nodes) [] dirs
  missing =
      ap (λ (p : Path). missing_dirs (tree_of nodes) p (drop (i + 1) dirs)) front
      ∙ (sym here ∙ (ap (λ (q : Path). missing_dirs (tree_of nodes) (take i dirs) q) (sym left) ∙ r.missing))

  stays : with_dir (tree_of nodes) (take i dirs ++ part ∷ []) ≡ tree_of nodes
  stays = rw there refl

  made : with_dirs (tree_of nodes) (take (i + 1) dirs) (drop (i + 1) dirs) ≡ with_dirs (tree_of nodes) [] dirs
  made =
      ap (λ (p : Path). with_dirs (tree_of nodes) p (drop (i + 1) dirs)) front
      ∙ (ap (λ (u : Tree). with_dirs u (take i dirs ++ part ∷ []) (drop (i + 1) dirs)) (sym stays)
      ∙ (ap (λ (q : Path). with_dirs (tree_of nodes) (take i dirs) q) (sym left) ∙ r.made))

-- the walk ends where a part isn't there
pub front_missing : (nodes : List Numbered) (dirs : Path) (i a : ℕ) (part : Bytes) → ReachesDirectory nodes dirs i a → i < length dirs → part ≡ get_or dirs i part → child nodes a (folded part) ≡ None → IsFront nodes dirs i a
front_missing nodes dirs i a part r h is c = record {
  few = omega arith;
  reach = r;
  missing = λ d less. ap (λ (x : Bytes). child nodes a (folded x)) (get_or_default dirs i d part h ∙ sym is) ∙ c;
}

-- or where all are
pub front_whole : (nodes : List Numbered) (dirs : Path) (i a : ℕ) → ReachesDirectory nodes dirs i a → i ≡ length dirs → IsFront nodes dirs (length dirs) a
front_whole nodes dirs i a r e = record {
  few = omega arith;
  reach = subst (λ (k : ℕ). ReachesDirectory nodes dirs k a) e r;
  missing = λ d less. absurd (omega arith);
}

-- ---- why a name is refused

pub whole_path : (path : Path) → is_root path ≡ false → path ≡ up path ++ last_part path ∷ []
whole_path [] e = absurd (true≢false e)
whole_path (x ∷ []) e = refl
whole_path (x ∷ y ∷ path) e = ap (λ (p : Path). x ∷ p) (whole_path (y ∷ path) (not_root y path))

pub some_root : (path : Path) → 0 < length path → is_root path ≡ false
some_root [] h = absurd (omega arith)
some_root (x ∷ path) h = not_root x path

pub first_missing : (nodes : List Numbered) (dirs : Path) (k a : ℕ) → IsFront nodes dirs k a → k < length dirs → number_by nodes 0 (folded_path (take k dirs ++ get_or dirs k [] ∷ [])) ≡ None
first_missing nodes dirs k a f h = number_more nodes (take k dirs) (get_or dirs k []) a f.reach.at ∙ f.missing [] h

no_below : (nodes : List Numbered) (dirs : Path) (k a : ℕ) → IsNodeTable nodes → IsFront nodes dirs k a → may_hang nodes a ≡ true → has_no_dir (tree_of nodes) [] dirs ≡ false
no_below nodes dirs k a t f may =
    sym f.reach.no_dir
    ∙ or_none (is_no_dir (tree_of nodes) (take k dirs)) (has_no_dir (tree_of nodes) (take k dirs) (drop k dirs)) (no_dir_is nodes (take k dirs) a t f.reach.at ∙ ap not may) rest
  where
    rest : has_no_dir (tree_of nodes) (take k dirs) (drop k dirs) ≡ false
    rest = elim (cases_lt k (length dirs)) [
      | inr all ↦ ap (λ (q : Path). has_no_dir (tree_of nodes) (take k dirs) q) (drop_all k dirs all)
      | inl less ↦
          let x = get_or dirs k [] in
          let none = first_missing nodes dirs k a f less in
          ap (λ (q : Path). has_no_dir (tree_of nodes) (take k dirs) q) (drop_first k dirs [] less)
          ∙ or_none (is_no_dir (tree_of nodes) (take k dirs ++ x ∷ [])) (has_no_dir (tree_of nodes) (take k dirs ++ x ∷ []) (drop (k + 1) dirs))
          (and_none (is_there (tree_of nodes) (take k dirs ++ x ∷ [])) (not (is_dir (tree_of nodes) (take k dirs ++ x ∷ []))) (absent nodes (take k dirs ++ x ∷ []) t (more_root (take k dirs) x) none))
          (none_below nodes (take k dirs ++ x ∷ []) (drop (k + 1) dirs) t none)
    ]

-- where all directories are there
whole_at : (nodes : List Numbered) (path : Path) (k a : ℕ) → is_root path ≡ false → IsFront nodes (up path) k a → k ≡ length (up path) → number_by nodes 0 (folded_path path) ≡ child nodes a (folded (last_part path))
whole_at nodes path k a root f all =
    let at : number_by nodes 0 (folded_path (up path)) ≡ Some a = ap (λ (p : Path). number_by nodes 0 (folded_path p)) (sym (ap (λ (j : ℕ). take j (up path)) all ∙ take-length (up path))) ∙ f.reach.at in
    ap (λ (p : Path). number_by nodes 0 (folded_path p)) (whole_path path root) ∙ number_more nodes (up path) (last_part path) a at

missing_at : (nodes : List Numbered) (path : Path) (k a : ℕ) → is_root path ≡ false → IsFront nodes (up path) k a → k < length (up path) → number_by nodes 0 (folded_path path) ≡ None
missing_at nodes path k a root f less =
    let x = get_or (up path) k [] in
    let split : up path ≡ (take k (up path) ++ x ∷ []) ++ drop (k + 1) (up path) =
    sym (take-append-drop (k + 1) (up path)) ∙ ap (λ (p : Path). p ++ drop (k + 1) (up path)) (take_more k (up path) [] less) in
    let none : number_by nodes 0 (folded_path (up path)) ≡ None =
    ap (λ (p : Path). number_by nodes 0 (folded_path p)) split ∙ leads_nowhere nodes (take k (up path) ++ x ∷ []) (drop (k + 1) (up path)) (first_missing nodes (up path) k a f less) in
    ap (λ (p : Path). number_by nodes 0 (folded_path p)) (whole_path path root) ∙ number_none nodes (up path) (last_part path) none

pub below_file : (nodes : List Numbered) (path : Path) (k a : ℕ) → IsNodeTable nodes → IsFront nodes (up path) k a → may_hang nodes a ≡ false → first_cause (file_causes (tree_of nodes) path) ≡ Some r.NotDirectory
below_file nodes path k a t f may = rw below refl where
  below : has_file_above (tree_of nodes) path ≡ true
  below =
      sym f.reach.no_dir
      ∙ ap (λ (b : Bool). b || has_no_dir (tree_of nodes) (take k (up path)) (drop k (up path))) (no_dir_is nodes (take k (up path)) a t f.reach.at ∙ ap not may)

pub name_taken : (nodes : List Numbered) (path : Path) (k a m : ℕ) → IsNodeTable nodes → 0 < length path → IsFront nodes (up path) k a → may_hang nodes a ≡ true → k ≡ length (up path) → child nodes a (folded (last_part path)) ≡ Some m
    → first_cause (file_causes (tree_of nodes) path) ≡ Some r.NameTaken
name_taken nodes path k a m t some f may all c = rw (no_below nodes (up path) k a t f may, there) refl where
  there : is_there (tree_of nodes) path ≡ true
  there =
      let x = child_found nodes a (folded (last_part path)) m t c in
      number_there nodes path m x.node t (whole_at nodes path k a (some_root path some) f all ∙ c) x.at

pub name_free : (nodes : List Numbered) (path : Path) (k a : ℕ) → IsNodeTable nodes → 0 < length path → IsFront nodes (up path) k a → may_hang nodes a ≡ true → IsFree nodes path k a → first_cause (file_causes (tree_of nodes) path) ≡ None
name_free nodes path k a t some f may free = rw (no_below nodes (up path) k a t f may, there) refl where
  root : is_root path ≡ false
  root = some_root path some

  there : is_there (tree_of nodes) path ≡ false
  there = absent nodes path t root (elim (cases_lt k (length (up path))) [
    | inl less ↦ missing_at nodes path k a root f less
    | inr all ↦
        let low : k ≤ length (up path) = f.few in
        let same : k ≡ length (up path) = omega arith in
        whole_at nodes path k a root f same ∙ free same
  ])

-- ---- what may be made of a name that isn't refused

pub name_may : (nodes : List Numbered) (path : Path) (k a : ℕ) → IsNodeTable nodes → IsFront nodes (up path) k a → first_cause (file_causes (tree_of nodes) path) ≡ None → may_hang nodes a ≡ true
name_may nodes path k a t f e = elim (either (may_hang nodes a)) [
  | inl held ↦ held
  | inr other ↦ absurd (none-some r.NotDirectory (sym e ∙ below_file nodes path k a t f other))
]

pub name_new : (nodes : List Numbered) (path : Path) (k a : ℕ) → IsNodeTable nodes → 0 < length path → IsFront nodes (up path) k a → first_cause (file_causes (tree_of nodes) path) ≡ None → IsFree nodes path k a
name_new nodes path k a t some f e all = one (child nodes a (folded (last_part path))) refl where
  one : (o : Option ℕ) → child nodes a (folded (last_part path)) ≡ o → o ≡ None
  one None c = refl
  one (Some m) c = absurd (none-some r.NameTaken (sym e ∙ name_taken nodes path k a m t some f (name_may nodes path k a t f e) all c))
