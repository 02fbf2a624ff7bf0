-- The texts of paths: they tell their parts.
use Rattle.std.proofs.Common.{◌≡◌, ℕ, zero, suc, ◌+◌, Bool, true, false, List, [], ◌∷◌, ◌++◌, Option, Some, None, refl, sym, ap, ◌∙◌, arith, ⊎_elim, append-nil}
use Rattle.std.specs.Prelude.{◌==◌, nat_le, not}
use Rattle.std.specs.Int.{is_in_range}
use Rattle.std.specs.List.{flat_map, list_all}
use Rattle.std.proofs.lemmas.Bool.{and_from, and_parts, cases_Bool, cond-false, cond-true, leb-true, ne_eqb, true≢false}
use Rattle.std.proofs.lemmas.List.{map-append}
use Rattle.std.proofs.lemmas.List.Folds.{list_all-append}
use Rattle.asm_group.specs.Names.{Bytes, Path, folded, folded_byte, folded_path, is_part, is_part_byte}
use Rattle.asm_formats.specs.Items.{Node}
use Rattle.asm_base.specs.Names as base
use Rattle.asm_base.proofs.NameLaws.{part_of}
use Rattle.asm_world.specs.Paths as world
use Rattle.asm_world.specs.Paths.{with_slashes}
use Rattle.alias_tree.specs.Nodes.{IsNodeTable, Numbered, node_at}
use Rattle.alias_tree.specs.Spelling.{names_to}
use Rattle.alias_tree.proofs.NameBytes.{is_part_at}

abbrev slash : Bytes → Bytes
slash part = 47 ∷ part

-- ---- the world's text

slashes : (group : Bytes) (parts : List Bytes) → with_slashes (group ∷ parts) ≡ group ++ flat_map slash parts
slashes group [] = sym (append-nil group)
slashes group (part ∷ parts) = ap (λ (rest : Bytes). group ++ 47 ∷ rest) (slashes part parts)

pub same_text : (group : Bytes) (parts : List Bytes) → world.path_text (group ∷ parts) ≡ base.path_text_in_group group parts
same_text group parts = ap (λ (rest : Bytes). 43 ∷ rest) (slashes group parts)

-- ---- folded texts

folded_slashes : (parts : Path) → folded (flat_map slash parts) ≡ flat_map slash (folded_path parts)
folded_slashes [] = refl
folded_slashes (part ∷ parts) = ap (λ (rest : Bytes). 47 ∷ rest) (map-append folded_byte part (flat_map slash parts) ∙ ap (λ (rest : Bytes). folded part ++ rest) (folded_slashes parts))

folded_text : (group : Bytes) (parts : Path) → folded (base.path_text_in_group group parts) ≡ 43 ∷ folded group ++ flat_map slash (folded_path parts)
folded_text group parts = ap (λ (rest : Bytes). 43 ∷ rest) (map-append folded_byte group (flat_map slash parts) ∙ ap (λ (rest : Bytes). folded group ++ rest) (folded_slashes parts))

tail_same : (x : ℕ) (xs ys : Bytes) → x ∷ xs ≡ x ∷ ys → xs ≡ ys
tail_same x xs ys e = cc

cancel : (front xs ys : Bytes) → front ++ xs ≡ front ++ ys → xs ≡ ys
cancel [] xs ys e = e
cancel (b ∷ front) xs ys e = cancel front xs ys (tail_same b (front ++ xs) (front ++ ys) e)

-- ---- parts without slashes

abbrev is_other : ℕ → Bool
is_other b = not (b == 47)

abbrev clear : Bytes → Bool
clear part = list_all is_other part

no_slash : (b : ℕ) → is_other b ≡ true → b ≡ 47 → ⊥
no_slash b is same = true≢false (sym is ∙ ap is_other same)

heads : (b c : ℕ) (xs ys : Bytes) → b ∷ xs ≡ c ∷ ys → (b ≡ c) × (xs ≡ ys)
heads b c xs ys e = (cc, cc)

cut : (p q : Bytes) (ps qs : List Bytes) → clear p ≡ true → clear q ≡ true → p ++ flat_map slash ps ≡ q ++ flat_map slash qs → (p ≡ q) × (flat_map slash ps ≡ flat_map slash qs)
cut [] [] ps qs a b e = (refl, e)
cut [] (c ∷ q) [] qs a b e = absurd cc
cut [] (c ∷ q) (r ∷ ps) qs a b e =
    let h = heads 47 c (r ++ flat_map slash ps) (q ++ flat_map slash qs) e in
    absurd (no_slash c (and_parts (is_other c) (clear q) b).0 (sym h.0))
cut (c ∷ p) [] ps [] a b e = absurd cc
cut (c ∷ p) [] ps (r ∷ qs) a b e =
    let h = heads c 47 (p ++ flat_map slash ps) (r ++ flat_map slash qs) e in
    absurd (no_slash c (and_parts (is_other c) (clear p) a).0 h.0)
cut (c ∷ p) (d ∷ q) ps qs a b e =
    let h = heads c d (p ++ flat_map slash ps) (q ++ flat_map slash qs) e in
    let rest = cut p q ps qs (and_parts (is_other c) (clear p) a).1 (and_parts (is_other d) (clear q) b).1 h.1 in
    ((λ i. h.0 i ∷ rest.0 i), rest.1)

joined_same : (ps qs : List Bytes) → list_all clear ps ≡ true → list_all clear qs ≡ true → flat_map slash ps ≡ flat_map slash qs → ps ≡ qs
joined_same [] [] a b e = refl
joined_same [] (q ∷ qs) a b e = absurd cc
joined_same (p ∷ ps) [] a b e = absurd cc
joined_same (p ∷ ps) (q ∷ qs) a b e =
    let x = and_parts (clear p) (list_all clear ps) a in
    let y = and_parts (clear q) (list_all clear qs) b in
    let c = cut p q ps qs x.0 y.0 (tail_same 47 (p ++ flat_map slash ps) (q ++ flat_map slash qs) e) in
    let rest = joined_same ps qs x.1 y.1 c.1 in
    λ i. c.0 i ∷ rest i

-- ---- parts of names

byte_clear : (b : ℕ) → is_part_byte b ≡ true → is_other (folded_byte b) ≡ true
byte_clear b is = ⊎_elim
    (λ (capital : is_in_range 65 90 b ≡ true).
    let low = leb-true 65 b (and_parts (nat_le 65 b) (nat_le b 90) capital).0 in
    ap is_other (cond-true (is_in_range 65 90 b) (b + 32) b capital) ∙ ap not (ne_eqb (b + 32) 47 (λ e. absurd (omega (arith, low, e)))))
    (λ (other : is_in_range 65 90 b ≡ false).
    ap is_other (cond-false (is_in_range 65 90 b) (b + 32) b other) ∙ ap not (ne_eqb b 47 (λ e. true≢false (sym is ∙ ap is_part_byte e))))
    (cases_Bool (is_in_range 65 90 b))

all_clear : (cs : Bytes) → list_all is_part_byte cs ≡ true → clear (folded cs) ≡ true
all_clear [] all = refl
all_clear (b ∷ cs) all =
    let p = and_parts (is_part_byte b) (list_all is_part_byte cs) all in
    and_from (is_other (folded_byte b)) (clear (folded cs)) (byte_clear b p.0) (all_clear cs p.1)

part_clear : (part : Bytes) → is_part 80 part ≡ true → clear (folded part) ≡ true
part_clear part is = all_clear part (part_of 80 part is).made

parts_clear : (parts : Path) → list_all (is_part 80) parts ≡ true → list_all clear (folded_path parts) ≡ true
parts_clear [] all = refl
parts_clear (part ∷ parts) all =
    let p = and_parts (is_part 80 part) (list_all (is_part 80) parts) all in
    and_from (clear (folded part)) (list_all clear (folded_path parts)) (part_clear part p.0) (parts_clear parts p.1)

-- two texts that are the same without case have the same parts without case
pub parts_told : (group : Bytes) (ps qs : Path) → list_all (is_part 80) ps ≡ true → list_all (is_part 80) qs ≡ true → folded (base.path_text_in_group group ps) ≡ folded (base.path_text_in_group group qs) → folded_path ps ≡ folded_path qs
parts_told group ps qs a b e =
    let whole : 43 ∷ (folded group ++ flat_map slash (folded_path ps)) ≡ 43 ∷ (folded group ++ flat_map slash (folded_path qs)) = sym (folded_text group ps) ∙ (e ∙ folded_text group qs) in
    joined_same (folded_path ps) (folded_path qs) (parts_clear ps a) (parts_clear qs b)
    (cancel (folded group) (flat_map slash (folded_path ps)) (flat_map slash (folded_path qs)) (tail_same 43 _ _ whole))

-- the names of nodes are parts
pub names_are_parts : (nodes : List Numbered) → IsNodeTable nodes → (k n : ℕ) → list_all (is_part 80) (names_to nodes k n) ≡ true
unfolding names_to
names_are_parts nodes is zero n = refl
names_are_parts nodes is (suc k) n = by (node_at nodes n) refl (λ m. names_are_parts nodes is k m) where
  by : (o : Option Node) → node_at nodes n ≡ o → ((m : ℕ) → list_all (is_part 80) (names_to nodes k m) ≡ true) → list_all (is_part 80) (names_to nodes (suc k) n) ≡ true
  by None e more = rw e refl
  by (Some node) e more =
      let part = is_part_at nodes n node is e in
      rw e (list_all-append (is_part 80) (names_to nodes k node.parent) (node.name ∷ []) ∙ rw (more node.parent, part) refl)
