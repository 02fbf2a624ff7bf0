-- Paths and the nodes that they name.
use Rattle.std.proofs.Common.{◌≡◌, ℕ, ◌+◌, ◌<◌, ◌≤◌, ◌⊎◌, Bool, true, false, cond, List, [], ◌∷◌, ◌++◌, length, get_or, take, drop, inl, inr, refl, sym, ap, ◌∙◌, Option, Some, None, arith}
use Rattle.std.specs.Prelude.{IfNone, IfSome}
use Rattle.std.specs.List.{list_all}
use Rattle.std.proofs.lemmas.Bool.{cases_Bool}
use Rattle.std.proofs.lemmas.List.{drop_all, take_all, take_more}
use Rattle.asm_group.specs.Names.{Bytes, Path, is_part, all_parts}
use Rattle.asm_group.specs.TreeEdits.{last_part, up}
use Rattle.asm_formats.specs.Items.{Node}
use Rattle.asm_base.specs.Names.{name_of}
use Rattle.asm_base.specs.declared.path.Path as code
use Rattle.asm_world.specs.Listings.{has_star}
use Rattle.alias_tree.specs.Nodes.{node_at}
use Rattle.alias_tree.specs.Spelling.{names_to}
use Rattle.alias_tree.proofs.Paths.{all_step, all_stop, last_of, up_of}
use Rattle.catalog_laws.specs.catalog_tables.Tables.{Tables}
use Rattle.group_reports.specs.Places.{path_at, path_of_parts}

-- ---- the path of a node

pub path_is : (t : Tables) (group : Bytes) (n : ℕ) (node : Node) (path : Option code.Path) → Some node ≡ node_at t.nodes n
    → IfSome path (λ (p : code.Path). p.parts ≡ names_to t.nodes (length t.nodes) n) → IfSome path (λ (p : code.Path). p.group ≡ group) → IfNone path (node_at t.nodes n ≡ None) → path ≡ path_at t group n
path_is t group n node None is parts name none = absurd cc
path_is t group n node (Some p) is parts name none =
    let whole : p ≡ path_of_parts group (names_to t.nodes (length t.nodes) n) = ap (λ (g : Bytes). path_of_parts g p.parts) name ∙ ap (λ (ps : Path). path_of_parts group ps) parts in
    rw (sym is) (ap (λ (q : code.Path). Some q) whole)

-- ---- texts as parts

not_part : (text : Bytes) → None ≡ name_of 80 text → is_part 80 text ≡ false
not_part text none = elim (cases_Bool (is_part 80 text)) [
  | inl part ↦ absurd (let f = rw part at none in cc)
  | inr other ↦ other
]

pub part_wrong : (texts : List Bytes) (i : ℕ) (text : Bytes) → list_all (is_part 80) (drop i texts) ≡ list_all (is_part 80) texts → i < length texts → text ≡ get_or texts i text → None ≡ name_of 80 text → None ≡ all_parts texts
part_wrong texts i text so_far within at none =
    let all : false ≡ list_all (is_part 80) texts = all_stop texts i text (list_all (is_part 80) texts) so_far within at (not_part text none) in
    rw (sym all) refl

is_this : (text part : Bytes) → Some part ≡ name_of 80 text → (is_part 80 text ≡ true) × (part ≡ text)
is_this text part some = elim (cases_Bool (is_part 80 text)) [
  | inl one ↦ (one, let f = rw one at some in cc)
  | inr other ↦ absurd (let f = rw other at some in cc)
]

pub part_more : (texts parts : List Bytes) (i : ℕ) (text part : Bytes) → parts ≡ take i texts → i < length texts → text ≡ get_or texts i text → Some part ≡ name_of 80 text → parts ++ part ∷ [] ≡ take (i + 1) texts
part_more texts parts i text part so_far within at some =
    ap (λ (ps : List Bytes). ps ++ part ∷ []) so_far ∙ ap (λ (p : Bytes). take i texts ++ p ∷ []) ((is_this text part some).1 ∙ at) ∙ sym (take_more texts i text within)

pub part_passed : (texts : List Bytes) (i : ℕ) (text part : Bytes) → list_all (is_part 80) (drop i texts) ≡ list_all (is_part 80) texts → i < length texts → text ≡ get_or texts i text → Some part ≡ name_of 80 text
    → list_all (is_part 80) (drop (i + 1) texts) ≡ list_all (is_part 80) texts
part_passed texts i text part so_far within at some = all_step texts i text (list_all (is_part 80) texts) so_far within at (is_this text part some).0

pub parts_end : (texts parts : List Bytes) (i : ℕ) → parts ≡ take i texts → list_all (is_part 80) (drop i texts) ≡ list_all (is_part 80) texts → length texts ≤ i → Some parts ≡ all_parts texts
parts_end texts parts i so_far all past =
    let whole : true ≡ list_all (is_part 80) texts = ap (λ (ts : List Bytes). list_all (is_part 80) ts) (sym (drop_all i texts past)) ∙ all in
    let same : parts ≡ texts = so_far ∙ take_all i texts past in
    rw (sym whole) (ap (λ (ps : List Bytes). Some ps) same)

-- ---- above and below

pub split_up : (parts rest : List Bytes) (last : Bytes) → parts ≡ rest ++ last ∷ [] → rest ≡ up parts
split_up parts rest last is = up_of parts rest last is

pub split_last : (parts rest : List Bytes) (last : Bytes) → parts ≡ rest ++ last ∷ [] → last ≡ last_part parts
split_last parts rest last is = last_of parts rest last is

pub no_parts : (parts : List Bytes) → length parts ≡ 0 → has_star (last_part parts) ≡ false
no_parts [] none = refl
no_parts (p ∷ parts) none = absurd (omega arith)
