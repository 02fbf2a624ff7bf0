-- Paths that lead to a node are made of parts, so a pattern names none.
use Rattle.std.proofs.Common.{◌≡◌, ⊎_elim, ℕ, ◌+◌, Bool, true, false, List, [], ◌∷◌, length, Option, Some, None, refl, sym, ap, ◌∙◌, arith}
use Rattle.std.specs.Prelude.{◌||◌, ◌==◌, nat_le, not}
use Rattle.std.specs.Int.{is_in_range}
use Rattle.std.specs.List.{list_all}
use Rattle.std.specs.Str.{bytes_eq}
use Rattle.std.proofs.lemmas.Bool.{and_from, and_parts, cases_Bool, cond-false, cond-true, false_from_ne_true, false≢true, le-leb, leb-true, ne_eqb, true≢false}
use Rattle.std.proofs.lemmas.List.{length-map}
use Rattle.std.proofs.lemmas.Slice.Eq.{bytes_eq-Decides}
use Rattle.asm_group.specs.Names.{Bytes, Path, folded, folded_byte, folded_path, is_digit, is_letter, is_name_byte, is_part, is_part_byte}
use Rattle.asm_group.specs.TreeEdits.{last_part}
use Rattle.asm_base.proofs.NameLaws.{part_is, part_of}
use Rattle.asm_world.specs.Listings.{has_star}
use Rattle.alias_tree.specs.Nodes.{IsNodeTable, Numbered, number_of}
use Rattle.alias_tree.specs.Trees.{number_by}
use Rattle.alias_tree.proofs.NameBytes.{is_part_at}
use Rattle.alias_tree.proofs.Ways.{by_step, child_found}
use Rattle.catalog_tables.specs.Tables.{Tables}
use Rattle.group_reports.specs.Places.{node_named}
use Rattle.report_laws.proofs.Spelling.{to_folded}

or_left : (a b : Bool) → a ≡ true → (a || b) ≡ true
or_left true b e = refl
or_left false b e = absurd (false≢true e)

or_right : (a b : Bool) → b ≡ true → (a || b) ≡ true
or_right true b e = refl
or_right false b e = e

-- ---- parts without case

letter_is : (b : ℕ) → is_letter b ≡ true → is_part_byte b ≡ true
letter_is b letter =
    let name : is_name_byte b ≡ true =
    or_left (is_letter b || is_digit b || b == 95 || b == 36) (b == 35)
    (or_left (is_letter b || is_digit b || b == 95) (b == 36) (or_left (is_letter b || is_digit b) (b == 95) (or_left (is_letter b) (is_digit b) letter))) in
    or_left (is_name_byte b || b == 45) (b == 46) (or_left (is_name_byte b) (b == 45) name)

capital_is : (b : ℕ) → is_in_range 65 90 b ≡ true → is_part_byte b ≡ true
capital_is b capital = letter_is b (or_left (is_in_range 65 90 b) (is_in_range 97 122 b) capital)

small_is : (b : ℕ) → is_in_range 97 122 b ≡ true → is_part_byte b ≡ true
small_is b small = letter_is b (or_right (is_in_range 65 90 b) (is_in_range 97 122 b) small)

same_byte : (b : ℕ) → is_in_range 65 90 b ≡ false → folded_byte b ≡ b
same_byte b other = cond-false (is_in_range 65 90 b) (b + 32) b other

lower_byte : (b : ℕ) → is_in_range 65 90 b ≡ true → folded_byte b ≡ b + 32
lower_byte b capital = cond-true (is_in_range 65 90 b) (b + 32) b capital

byte_folded : (b : ℕ) → is_part_byte b ≡ true → is_part_byte (folded_byte b) ≡ true
byte_folded b is = ⊎_elim
    (λ (capital : is_in_range 65 90 b ≡ true).
    let ends = and_parts (nat_le 65 b) (nat_le b 90) capital in
    let low = leb-true 65 b ends.0 in
    let high = leb-true b 90 ends.1 in
    let small : is_in_range 97 122 (b + 32) ≡ true = and_from (nat_le 97 (b + 32)) (nat_le (b + 32) 122) (le-leb 97 (b + 32) (omega (arith, low))) (le-leb (b + 32) 122 (omega (arith, high))) in
    ap is_part_byte (lower_byte b capital) ∙ small_is (b + 32) small)
    (λ (other : is_in_range 65 90 b ≡ false). ap is_part_byte (same_byte b other) ∙ is)
    (cases_Bool (is_in_range 65 90 b))

byte_back : (b : ℕ) → is_part_byte (folded_byte b) ≡ true → is_part_byte b ≡ true
byte_back b is = ⊎_elim
    (λ (capital : is_in_range 65 90 b ≡ true). capital_is b capital)
    (λ (other : is_in_range 65 90 b ≡ false). ap is_part_byte (sym (same_byte b other)) ∙ is)
    (cases_Bool (is_in_range 65 90 b))

point_back : (b : ℕ) → folded_byte b ≡ 46 → b ≡ 46
point_back b e = ⊎_elim
    (λ (capital : is_in_range 65 90 b ≡ true).
    let low = leb-true 65 b (and_parts (nat_le 65 b) (nat_le b 90) capital).0 in
    let high : b + 32 ≡ 46 = sym (lower_byte b capital) ∙ e in
    absurd (omega (arith, low, high)))
    (λ (other : is_in_range 65 90 b ≡ false). sym (same_byte b other) ∙ e)
    (cases_Bool (is_in_range 65 90 b))

heads : (b c : ℕ) (xs ys : Bytes) → b ∷ xs ≡ c ∷ ys → (b ≡ c) × (xs ≡ ys)
heads b c xs ys e = (cc, cc)

bytes_alike : (a x : Bytes) → folded a ≡ folded x → list_all is_part_byte a ≡ true → list_all is_part_byte x ≡ true
bytes_alike a [] e all = refl
bytes_alike [] (c ∷ x) e all = absurd cc
bytes_alike (b ∷ a) (c ∷ x) e all =
    let h = heads (folded_byte b) (folded_byte c) (folded a) (folded x) e in
    let p = and_parts (is_part_byte b) (list_all is_part_byte a) all in
    and_from (is_part_byte c) (list_all is_part_byte x) (byte_back c (ap is_part_byte (sym h.0) ∙ byte_folded b p.0)) (bytes_alike a x h.1 p.1)

is_point : (a : Bytes) → folded a ≡ 46 ∷ [] → a ≡ 46 ∷ []
is_point [] e = absurd cc
is_point (b ∷ []) e = ap (λ (c : ℕ). c ∷ []) (point_back b (heads (folded_byte b) 46 [] [] e).0)
is_point (b ∷ c ∷ a) e = absurd cc

-- what is a part but for case is one
part_alike : (a x : Bytes) → folded a ≡ folded x → is_part 80 a ≡ true → is_part 80 x ≡ true
part_alike a x e is =
    let p = part_of 80 a is in
    let long : length x ≡ length a = sym (length-map x folded_byte) ∙ ap (λ (y : Bytes). length y) (sym e) ∙ length-map a folded_byte in
    part_is 80 x (record {
      made = bytes_alike a x e p.made;
      some = rw long p.some;
      few = omega (arith, long, p.few);
      no_point = ap not (false_from_ne_true (bytes_eq x (46 ∷ [])) (λ alike.
          let point : x ≡ 46 ∷ [] = (bytes_eq-Decides x (46 ∷ [])).0 alike in
          let same : a ≡ 46 ∷ [] = is_point a (e ∙ ap folded point) in
          true≢false (sym p.no_point ∙ ap (λ (y : Bytes). not (bytes_eq y (46 ∷ []))) same)));
    })

-- ---- paths

module _ (nodes : List Numbered) (is : IsNodeTable nodes) where
  parts_lead : (path : Path) (a n : ℕ) → number_by nodes a (folded_path path) ≡ Some n → list_all (is_part 80) path ≡ true
  parts_lead [] a n e = refl
  parts_lead (x ∷ path) a n e =
      let s = by_step nodes (folded x) (folded_path path) a n e in
      let c = child_found nodes a (folded x) s.0 is s.1 in
      and_from (is_part 80 x) (list_all (is_part 80) path) (part_alike c.node.name x c.name_is (is_part_at nodes s.0 c.node is c.at)) (parts_lead path s.0 n s.2)

  -- a path that leads to a node is made of parts
  pub made_of_parts : (path : Path) (n : ℕ) → number_of nodes path ≡ Some n → list_all (is_part 80) path ≡ true
  made_of_parts path n e = parts_lead path 0 n (to_folded nodes is path n e)

-- each path names the node that it leads to
pub named_is : (t : Tables) → IsNodeTable t.nodes → (path : Path) → node_named t path ≡ number_of t.nodes path
named_is t is path = by (number_of t.nodes path) refl where
  by : (o : Option ℕ) → number_of t.nodes path ≡ o → node_named t path ≡ number_of t.nodes path
  by (Some n) e = cond-true (list_all (is_part 80) path) (number_of t.nodes path) None (made_of_parts t.nodes is path n e)
  by None e = ⊎_elim
      (λ (all : list_all (is_part 80) path ≡ true). cond-true (list_all (is_part 80) path) (number_of t.nodes path) None all)
      (λ (other : list_all (is_part 80) path ≡ false). cond-false (list_all (is_part 80) path) (number_of t.nodes path) None other ∙ sym e)
      (cases_Bool (list_all (is_part 80) path))

-- ---- stars

bytes_free : (x : Bytes) → list_all is_part_byte x ≡ true → has_star x ≡ false
bytes_free [] all = refl
bytes_free (b ∷ x) all =
    let p = and_parts (is_part_byte b) (list_all is_part_byte x) all in
    let other : (b == 42) ≡ false = ne_eqb b 42 (λ e. true≢false (sym p.0 ∙ ap is_part_byte e)) in
    ap (λ (a : Bool). a || has_star x) other ∙ bytes_free x p.1

last_is : (part : Bytes) (path : Path) → list_all (is_part 80) (part ∷ path) ≡ true → is_part 80 (last_part (part ∷ path)) ≡ true
last_is part [] all = (and_parts (is_part 80 part) true all).0
last_is part (next ∷ path) all = last_is next path (and_parts (is_part 80 part) (list_all (is_part 80) (next ∷ path)) all).1

-- the last of some parts has no star
pub star_free : (path : Path) → list_all (is_part 80) path ≡ true → has_star (last_part path) ≡ false
star_free [] all = refl
star_free (part ∷ path) all = bytes_free (last_part (part ∷ path)) (part_of 80 (last_part (part ∷ path)) (last_is part path all)).made
