-- Places: how they are made, and when two are one.
use Rattle.std.proofs.Common.{◌≡◌, ℕ, zero, suc, ◌+◌, ◌-◌, ◌<◌, ◌≤◌, true, Ordering, List, [], ◌∷◌, ◌++◌, length, take, drop, get_or, set, replicate, refl, sym, ap, ◌∙◌, arith, add-one}
use Rattle.std.specs.Cmp.{IsTotalOrder, Equal-is}
use Rattle.std.specs.Cmp.Lexicographic.{slice_cmp}
use Rattle.std.specs.FinMap as maps
use Rattle.std.specs.Ordering.{nat_cmp, ordering_then}
use Rattle.std.specs.declared.cmp.Ordering.TheVariants.{Less, Equal, Greater}
use Rattle.std.proofs.lemmas.Cmp.{lists_total, nat_cmp_total, then_total, on_total, eq_by_cmp_equiv}
use Rattle.std.proofs.lemmas.List.{length-map, take_at, take_all}
use Rattle.asm_group.specs.Names.{Bytes, folded, folded_byte}
use Rattle.asm_formats.specs.Items.{Node}
use Rattle.alias_tree.specs.Places.{Place, named_place, place_of, place_cmp, is_same_place}

-- ---- how a place is made

put_one : (bytes field : List ℕ) (i : ℕ) → i < length bytes → i < length field → set (folded (take i bytes) ++ drop i field) i (folded_byte (get_or bytes i 0)) ≡ folded (take (suc i) bytes) ++ drop (suc i) field
put_one [] field i h g = absurd (omega arith)
put_one (b ∷ bytes) [] i h g = absurd (omega arith)
put_one (b ∷ bytes) (f ∷ field) zero h g = refl
put_one (b ∷ bytes) (f ∷ field) (suc i) h g = ap (λ (xs : List ℕ). folded_byte b ∷ xs) (put_one bytes field i (omega arith) (omega arith))

-- one byte more
pub one_folded : (bytes field now : List ℕ) (i v : ℕ) → now ≡ folded (take i bytes) ++ drop i field → i < length bytes → length bytes ≤ length field → v ≡ folded_byte (get_or bytes i 0)
    → set now i v ≡ folded (take (i + 1) bytes) ++ drop (i + 1) field
one_folded bytes field now i v is h g e = rw (is, e, add-one) (put_one bytes field i h (omega arith))

-- all of them
pub all_folded : (bytes field now : List ℕ) (i : ℕ) → now ≡ folded (take i bytes) ++ drop i field → i ≡ length bytes → now ≡ folded bytes ++ drop (length bytes) field
all_folded bytes field now i is e = is ∙ rw (e, take_all (length bytes) bytes (omega arith)) refl

drop_zeros : (n m : ℕ) → drop {A = ℕ} n (replicate m 0) ≡ replicate (m - n) 0
drop_zeros zero m = let e : m ≡ m - 0 = omega arith in ap (λ (k : ℕ). replicate {A = ℕ} k 0) e
drop_zeros (suc n) zero = let e : 0 ≡ 0 - suc n = omega arith in ap (λ (k : ℕ). replicate {A = ℕ} k 0) e
drop_zeros (suc n) (suc m) = let e : m - n ≡ suc m - suc n = omega arith in drop_zeros n m ∙ ap (λ (k : ℕ). replicate {A = ℕ} k 0) e

abbrev made : ℕ → List ℕ → ℕ → Place
made parent name len = record { parent = parent; name = name; len = len }

pub place_is : (parent : ℕ) (bytes name : List ℕ) (len : ℕ) → name ≡ folded bytes ++ drop (length bytes) (replicate 80 0) → len ≡ length bytes → made parent name len ≡ named_place parent bytes
unfolding named_place
place_is parent bytes name len is e =
    ap (λ (xs : List ℕ). made parent xs len) (is ∙ ap (λ (zs : List ℕ). folded bytes ++ zs) (drop_zeros (length bytes) 80)) ∙ ap (λ (n : ℕ). made parent (folded bytes ++ replicate (80 - length bytes) 0) n) e

-- ---- the order

pub place_total : IsTotalOrder place_cmp
place_total =
    then_total (on_total (λ (p : Place). p.parent) nat_cmp_total) (then_total (on_total (λ (p : Place). p.name) (lists_total nat_cmp_total)) (on_total (λ (p : Place). p.len) nat_cmp_total))

then_equal : (a b : Ordering) → ordering_then a b ≡ Equal → (a ≡ Equal) × (b ≡ Equal)
then_equal Equal b e = (refl, e)
then_equal Less b e = absurd cc
then_equal Greater b e = absurd cc

pub same_is : (p q : Place) → is_same_place p q ≡ true → p ≡ q
same_is p q e =
    let whole = (Equal-is (place_cmp p q)).0 e in
    let a = then_equal (nat_cmp p.parent q.parent) (ordering_then (slice_cmp nat_cmp p.name q.name) (nat_cmp p.len q.len)) whole in
    let b = then_equal (slice_cmp nat_cmp p.name q.name) (nat_cmp p.len q.len) a.1 in
    let parent : p.parent ≡ q.parent = maps.nat_cmp-IsAntisymmetric p.parent q.parent a.0 in
    let name : p.name ≡ q.name = maps.slice_cmp-IsAntisymmetric maps.nat_cmp-IsAntisymmetric p.name q.name b.0 in
    let len : p.len ≡ q.len = maps.nat_cmp-IsAntisymmetric p.len q.len b.1 in
    ap (λ (x : ℕ). made x p.name p.len) parent ∙ (ap (λ (x : List ℕ). made q.parent x p.len) name ∙ ap (λ (x : ℕ). made q.parent q.name x) len)

pub self_same : (p : Place) → is_same_place p p ≡ true
self_same p = (eq_by_cmp_equiv place_total).refl p

-- ---- when two names have one place

pub one_name : (a b : ℕ) (x y : Bytes) → named_place a x ≡ named_place b y → (a ≡ b) × (folded x ≡ folded y)
unfolding named_place
one_name a b x y e =
    let len : length x ≡ length y = ap (λ (p : Place). p.len) e in
    let name : folded x ++ replicate (80 - length x) 0 ≡ folded y ++ replicate (80 - length y) 0 = ap (λ (p : Place). p.name) e in
    let left : take (length x) (folded x ++ replicate (80 - length x) 0) ≡ folded x = take_at (folded x) (replicate (80 - length x) 0) (length x) (length-map x folded_byte) in
    let right : take (length x) (folded y ++ replicate (80 - length y) 0) ≡ folded y = take_at (folded y) (replicate (80 - length y) 0) (length x) (length-map y folded_byte ∙ sym len) in
    (ap (λ (p : Place). p.parent) e, sym left ∙ (ap (λ (xs : List ℕ). take (length x) xs) name ∙ right))

pub one_place : (a b : ℕ) (x y : Bytes) → a ≡ b → folded x ≡ folded y → named_place a x ≡ named_place b y
unfolding named_place
one_place a b x y e f =
    let len : length x ≡ length y = sym (length-map x folded_byte) ∙ (ap (λ (xs : List ℕ). length xs) f ∙ length-map y folded_byte) in
    ap (λ (n : ℕ). made n (folded x ++ replicate (80 - length x) 0) (length x)) e
    ∙ (ap (λ (xs : List ℕ). made b (xs ++ replicate (80 - length x) 0) (length x)) f ∙ ap (λ (n : ℕ). made b (folded y ++ replicate (80 - n) 0) n) len)

pub place_len : (node : Node) → (place_of node).len ≡ length node.name
unfolding named_place
place_len node = refl

pub place_parent : (node : Node) → (place_of node).parent ≡ node.parent
unfolding named_place
place_parent node = refl
