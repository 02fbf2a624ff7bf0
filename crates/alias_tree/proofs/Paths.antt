-- Paths by their parts, and what the tree has there.
use Rattle.std.proofs.Common.{◌≡◌, ℕ, ◌+◌, ◌<◌, ◌≤◌, Bool, true, false, List, [], ◌∷◌, ◌++◌, length, drop, get_or, Option, Some, None, refl, sym, ap, ◌∙◌, arith, drop-cons, add-one, length-drop}
use Rattle.std.proofs.Math.Seq.{drop-length}
use Rattle.std.specs.Prelude.{is_some, ◌&&◌}
use Rattle.std.specs.List.{list_all}
use Rattle.std.specs.Option.{option_map}
use Rattle.asm_group.specs.Names.{Bytes, Path, folded_path, is_same_name, is_part}
use Rattle.asm_group.specs.TreeEdits.{up, last_part, is_under, entry_at}
use Rattle.asm_formats.specs.Items.{Node}
use Rattle.alias_tree.specs.Nodes.{Numbered, IsNodeTable}
use Rattle.asm_formats.specs.Nodes.{entry_of_node}
use Rattle.alias_tree.specs.Trees.{tree_of, node_by}
use Rattle.alias_tree.proofs.Ways.{tree_has}

-- ---- the last part

pub up_append : (rest : List Bytes) (last : Bytes) → up (rest ++ last ∷ []) ≡ rest
up_append [] last = refl
up_append (x ∷ []) last = refl
up_append (x ∷ y ∷ rest) last = ap (λ (p : Path). x ∷ p) (up_append (y ∷ rest) last)

pub last_append : (rest : List Bytes) (last : Bytes) → last_part (rest ++ last ∷ []) ≡ last
last_append [] last = refl
last_append (x ∷ []) last = refl
last_append (x ∷ y ∷ rest) last = last_append (y ∷ rest) last

pub up_of : (parts rest : List Bytes) (last : Bytes) → parts ≡ rest ++ last ∷ [] → rest ≡ up parts
up_of parts rest last e = sym (ap up e ∙ up_append rest last)

pub last_of : (parts rest : List Bytes) (last : Bytes) → parts ≡ rest ++ last ∷ [] → last ≡ last_part parts
last_of parts rest last e = sym (ap last_part e ∙ last_append rest last)

-- ---- what the tree has at a path

pub entry_is : (nodes : List Numbered) (path : Path) → IsNodeTable nodes → entry_at (tree_of nodes) path ≡ option_map entry_of_node (node_by nodes (folded_path path))
entry_is nodes path t = tree_has nodes (folded_path path) t

-- ---- below a directory

step_of : (i : ℕ) (xs : List Bytes) → i < length xs → (d : Bytes) → drop i xs ≡ get_or xs i d ∷ drop (i + 1) xs
step_of i xs h d = drop-cons xs i d h ∙ (rw add-one refl)

pub under_cons : (d x : Bytes) (dir path : Path) → is_same_name d x ≡ true → is_under (folded_path (d ∷ dir)) (folded_path (x ∷ path)) ≡ is_under (folded_path dir) (folded_path path)
under_cons d x dir path e = rw e refl

pub under_not : (d x : Bytes) (dir path : Path) → is_same_name d x ≡ false → is_under (folded_path (d ∷ dir)) (folded_path (x ∷ path)) ≡ false
under_not d x dir path e = rw e refl

pub under_short : (dir path : Path) → length path ≤ length dir → is_under (folded_path dir) (folded_path path) ≡ false
under_short [] [] h = refl
under_short [] (x ∷ path) h = absurd (omega arith)
under_short (d ∷ dir) [] h = refl
under_short (d ∷ dir) (x ∷ path) h = one (is_same_name d x) (under_short dir path (omega arith)) where
  one : (b : Bool) → is_under (folded_path dir) (folded_path path) ≡ false → (b && is_under (folded_path dir) (folded_path path)) ≡ false
  one true e = e
  one false e = refl

pub under_end : (path : Path) → 0 < length path → is_under (folded_path []) (folded_path path) ≡ true
under_end [] h = absurd (omega arith)
under_end (x ∷ path) h = refl

pub there_same : (o : Option Node) → is_some (option_map entry_of_node o) ≡ is_some o
there_same None = refl
there_same (Some node) = refl

pub under_done : (dir path : Path) (i : ℕ) → length dir ≤ i → i ≤ length dir → length dir < length path → is_under (folded_path (drop i dir)) (folded_path (drop i path)) ≡ is_under (folded_path dir) (folded_path path)
    → true ≡ is_under (folded_path dir) (folded_path path)
under_done dir path i low high more e =
    let at : i ≡ length dir = omega arith in
    let left : 0 < length (drop (length dir) path) = omega (arith, length-drop (length dir) path) in
    let none : drop (length dir) dir ≡ [] = drop-length dir in
    sym (under_end (drop (length dir) path) left) ∙ (ap (λ (d : Path). is_under (folded_path d) (folded_path (drop (length dir) path))) (sym none) ∙ (ap (λ (k : ℕ). is_under (folded_path (drop k dir)) (folded_path (drop k path))) (sym at) ∙ e))

-- ---- the parts one by one

pub all_step : (parts : List Bytes) (i : ℕ) (part : Bytes) (whole : Bool) → list_all (is_part 80) (drop i parts) ≡ whole → i < length parts → part ≡ get_or parts i part → is_part 80 part ≡ true → list_all (is_part 80) (drop (i + 1) parts) ≡ whole
all_step parts i part whole e h is so = sym (ap (λ (xs : List Bytes). list_all (is_part 80) xs) (step_of i parts h part) ∙ (rw (← is) (rw so refl))) ∙ e

pub all_stop : (parts : List Bytes) (i : ℕ) (part : Bytes) (whole : Bool) → list_all (is_part 80) (drop i parts) ≡ whole → i < length parts → part ≡ get_or parts i part → is_part 80 part ≡ false → false ≡ whole
all_stop parts i part whole e h is so = sym (ap (λ (xs : List Bytes). list_all (is_part 80) xs) (step_of i parts h part) ∙ (rw (← is) (rw so refl))) ∙ e
