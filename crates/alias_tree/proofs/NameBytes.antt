-- The bytes of names without case, and the order of the places of one parent.
use Rattle.std.proofs.Common.{◌≡◌, ℕ, zero, suc, ◌+◌, ◌-◌, ◌<◌, ◌≤◌, Bool, true, false, leb, Ordering, List, [], ◌∷◌, ◌++◌, length, replicate, Some, refl, sym, ap, ◌∙◌, arith, inl, inr}
use Rattle.std.specs.Prelude.{◌&&◌}
use Rattle.std.specs.Int.{is_in_range}
use Rattle.std.specs.Cmp.{nat_cmp_is}
use Rattle.std.specs.Cmp.Lexicographic.{slice_cmp}
use Rattle.std.specs.FinMap as maps
use Rattle.std.specs.List.{list_all, AllByRecursion}
use Rattle.std.specs.Ordering.{nat_cmp, ordering_then}
use Rattle.std.specs.declared.cmp.Ordering.TheVariants.{Less, Equal, Greater}
use Rattle.std.proofs.lemmas.Bool.{and_parts, cases_lt, lt-leb, ltb-true, ne_eqb, true≢false}
use Rattle.std.proofs.lemmas.List.{length-map}
use Rattle.asm_base.proofs.NameLaws.{part_of}
use Rattle.asm_formats.specs.Items.{Node}
use Rattle.asm_group.specs.Names.{Bytes, folded, folded_byte, is_part, is_part_byte}
use Rattle.alias_tree.specs.Nodes.{IsNodeTable, Numbered, node_at}
use Rattle.alias_tree.specs.Places.{Place, named_place, place_cmp, place_of}
use Rattle.alias_tree.proofs.IndexLaws.{item_at}
use Rattle.alias_tree.proofs.Readings.{name_is_part}

-- ---- bytes

and_false : (b : Bool) → (b && false) ≡ false
and_false true = refl
and_false false = refl

between : (low high b : ℕ) → high < b → is_in_range low high b ≡ false
between low high b past = rw (lt-leb b high past) (and_false (leb low b))

none : (b : ℕ) → 123 ≤ b → is_part_byte b ≡ false
none b past = rw (between 65 90 b (omega arith), between 97 122 b (omega arith), between 48 57 b (omega arith), ne_eqb b 95 (λ same. omega arith), ne_eqb b 36 (λ same. omega arith), ne_eqb b 35 (λ same. omega arith), ne_eqb b 45 (λ same. omega arith), ne_eqb b 46 (λ same. omega arith)) refl

is_small : (b : ℕ) → is_part_byte b ≡ true → b < 123
is_small b e = elim (cases_lt b 123) [ inl lt ↦ lt | inr past ↦ absurd (true≢false (sym e ∙ none b past)) ]

is_some : (b : ℕ) → is_part_byte b ≡ true → 0 < b
is_some zero e = absurd (true≢false (sym e))
is_some (suc b) e = omega arith

-- a byte of a part of a path, without case
byte_between : (c : ℕ) → is_part_byte c ≡ true → (0 < folded_byte c) × (folded_byte c < 255)
byte_between c e = by (is_in_range 65 90 c) refl where
  some : 0 < c
  some = is_some c e

  small : c < 123
  small = is_small c e

  by : (b : Bool) → is_in_range 65 90 c ≡ b → (0 < folded_byte c) × (folded_byte c < 255)
  by true upper =
      let low : 0 < c + 32 = omega arith in
      let high : c + 32 < 255 = omega (arith, small) in
      rw upper (low, high)
  by false other = let high : c < 255 = omega (arith, small) in rw other (some, high)

-- ---- zeros behind

abbrev AreSome : List ℕ → Type 0
AreSome bytes = AllByRecursion (λ b. 0 < b) bytes

same_zeros : (n : ℕ) → slice_cmp nat_cmp (replicate n 0) (replicate n 0) ≡ Equal
same_zeros zero = refl
same_zeros (suc n) = same_zeros n

pub padded : (xs ys : List ℕ) (m n : ℕ) → AreSome xs → AreSome ys → length xs + m ≡ length ys + n → slice_cmp nat_cmp (xs ++ replicate m 0) (ys ++ replicate n 0) ≡ slice_cmp nat_cmp xs ys
padded [] [] m n p q e = let f : m ≡ n = omega arith in ap (λ (k : ℕ). slice_cmp nat_cmp (replicate k 0) (replicate n 0)) f ∙ same_zeros n
padded [] (y ∷ ys) zero n p q e = absurd (omega arith)
padded [] (y ∷ ys) (suc m) n p q e = let less : nat_cmp 0 y ≡ Less = sym (nat_cmp_is 0 y Less q.0) in rw less refl
padded (x ∷ xs) [] m zero p q e = absurd (omega arith)
padded (x ∷ xs) [] m (suc n) p q e = let more : nat_cmp x 0 ≡ Greater = sym (nat_cmp_is x 0 Greater p.0) in rw more refl
padded (x ∷ xs) (y ∷ ys) m n p q e = ap (ordering_then (nat_cmp x y)) (padded xs ys m n p.1 q.1 (omega arith))

-- where names of different places are compared, and then their lengths, the names decide
pub names_decide : (xs ys : List ℕ) (m n : ℕ) → (xs ≡ ys → m ≡ n) → ordering_then (slice_cmp nat_cmp xs ys) (nat_cmp m n) ≡ Less → slice_cmp nat_cmp xs ys ≡ Less
names_decide xs ys m n same e = by (slice_cmp nat_cmp xs ys) refl where
  by : (o : Ordering) → slice_cmp nat_cmp xs ys ≡ o → slice_cmp nat_cmp xs ys ≡ Less
  by Less f = f
  by Equal f =
      let names : xs ≡ ys = maps.slice_cmp-IsAntisymmetric maps.nat_cmp-IsAntisymmetric xs ys f in
      let lens : nat_cmp m n ≡ Equal = sym (nat_cmp_is m n Equal (same names)) in
      let whole : ordering_then Equal Equal ≡ Less = sym (ap (λ (o : Ordering). ordering_then o (nat_cmp m n)) f ∙ ap (ordering_then Equal) lens) ∙ e in
      absurd cc
  by Greater f =
      let whole : Greater ≡ Less = sym (ap (λ (o : Ordering). ordering_then o (nat_cmp m n)) f) ∙ e in
      absurd cc

-- ---- names of nodes

all_some : (bytes : Bytes) → list_all is_part_byte bytes ≡ true → AreSome (folded bytes)
all_some [] e = tt
all_some (b ∷ bytes) e = let f = and_parts (is_part_byte b) (list_all is_part_byte bytes) e in ((byte_between b f.0).0, all_some bytes f.1)

pub is_part_at : (nodes : List Numbered) (n : ℕ) (node : Node) → IsNodeTable nodes → node_at nodes n ≡ Some node → is_part 80 node.name ≡ true
is_part_at nodes n node t e = name_is_part n node (item_at nodes n node t.items e)

-- the first byte of a place's name
pub record Head (p : Place) : Type 0 where
  pub byte : ℕ
  pub rest : List ℕ
  pub name : p.name ≡ byte ∷ rest
  pub some : 0 < byte
  pub small : byte < 255

head_of : (parent : ℕ) (bytes : Bytes) → list_all is_part_byte bytes ≡ true → 0 < length bytes → Head (named_place parent bytes)
unfolding named_place
head_of parent [] made some = absurd (omega arith)
head_of parent (b ∷ bytes) made some =
    let f = byte_between b (and_parts (is_part_byte b) (list_all is_part_byte bytes) made).0 in
    record { byte = folded_byte b; rest = folded bytes ++ replicate (80 - length (b ∷ bytes)) 0; name = refl; some = f.0; small = f.1 }

pub place_head : (node : Node) → is_part 80 node.name ≡ true → Head (place_of node)
place_head node is = let p = part_of 80 node.name is in head_of node.parent node.name p.made (ltb-true 0 (length node.name) p.some)

-- of two nodes of one parent the one whose place comes first has the lesser name
pub names_less : (a b : Node) → is_part 80 a.name ≡ true → is_part 80 b.name ≡ true → a.parent ≡ b.parent → place_cmp (place_of a) (place_of b) ≡ Less → slice_cmp nat_cmp (folded a.name) (folded b.name) ≡ Less
unfolding named_place
names_less a b is it same less =
    let p = part_of 80 a.name is in
    let q = part_of 80 b.name it in
    let long : length (folded a.name) ≡ length a.name = length-map a.name folded_byte in
    let wide : length (folded b.name) ≡ length b.name = length-map b.name folded_byte in
    let few : length a.name ≤ 80 = p.few in
    let less_than : length b.name ≤ 80 = q.few in
    let full : length (folded a.name) + (80 - length a.name) ≡ length (folded b.name) + (80 - length b.name) = omega arith in
    let names : slice_cmp nat_cmp (folded a.name ++ replicate (80 - length a.name) 0) (folded b.name ++ replicate (80 - length b.name) 0) ≡ slice_cmp nat_cmp (folded a.name) (folded b.name) =
    padded (folded a.name) (folded b.name) (80 - length a.name) (80 - length b.name) (all_some a.name p.made) (all_some b.name q.made) full in
    let parents : nat_cmp a.parent b.parent ≡ Equal = sym (nat_cmp_is a.parent b.parent Equal same) in
    let both : ordering_then (slice_cmp nat_cmp (folded a.name) (folded b.name)) (nat_cmp (length a.name) (length b.name)) ≡ Less = rw (parents, names) at less in
    names_decide (folded a.name) (folded b.name) (length a.name) (length b.name) (λ e. sym long ∙ (ap (λ (xs : Bytes). length xs) e ∙ wide)) both
