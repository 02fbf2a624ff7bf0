-- The nodes of one parent are those in a run of the index.
use Rattle.std.proofs.Common.{◌≡◌, ℕ, ◌<◌, Bool, true, false, eqb, Ordering, List, [], ◌∷◌, length, map, Option, Some, None, refl, sym, ap, ◌∙◌, arith, inl, inr}
use Rattle.std.specs.Prelude.{◌||◌, filter, nat_lt}
use Rattle.std.specs.Cmp.{Equal-is, nat_cmp_is}
use Rattle.std.specs.List.{list_any, AllByRecursion}
use Rattle.std.specs.List.Sorted.{IsStrictlySortedBy}
use Rattle.std.specs.Map.{keys_of}
use Rattle.std.specs.BTreeMap.{is_at}
use Rattle.std.specs.BTreeMap.Range.{range_contains}
use Rattle.std.specs.Ordering.{nat_cmp, is_eq, is_gt}
use Rattle.std.specs.declared.cmp.Ordering.TheVariants.{Less, Equal, Greater}
use Rattle.std.specs.declared.ops.Bound.TheVariants.{Included}
use Rattle.std.proofs.lemmas.Bool.{eqb-true, eq-eqb, lt-ltb, true≢false}
use Rattle.std.proofs.lemmas.Option.{none-some}
use Rattle.asm_formats.specs.Items.{Node}
use Rattle.asm_base.proofs.Exact.{some_is}
use Rattle.alias_tree.specs.Nodes.{Numbered, node_at, is_under_parent, are_distinct, IsNodeTable}
use Rattle.alias_tree.specs.Places.{Place, place_of, place_cmp, number_at_place, IsIndex, first_under, last_under, numbers_under}
use Rattle.alias_tree.proofs.PlaceLaws.{same_is, self_same, place_parent}
use Rattle.alias_tree.proofs.NameBytes.{is_part_at, place_head}
use Rattle.alias_tree.proofs.IndexLaws.{either, at_is, at_self, not_same, stands}

abbrev pub Index : Type 0
Index = List (Place × ℕ)

abbrev has : ℕ → List ℕ → Bool
has m numbers = list_any (λ k. eqb k m) numbers

abbrev pub kept : (Place → Bool) → Index → List ℕ
kept keep places = map (λ (e : Place × ℕ). e.1) (filter (λ (e : Place × ℕ). keep e.0) places)

-- between the bounds of a parent
abbrev pub keeps : ℕ → Place → Bool
keeps parent p = range_contains place_cmp (Included (first_under parent)) (Included (last_under parent)) p

-- ---- places in order

below_found : (x : Place) (places : Index) (p : Place) (m : ℕ) → AllByRecursion (λ y. place_cmp x y ≡ Less) (keys_of places) → number_at_place places p ≡ Some m → place_cmp x p ≡ Less
below_found x [] p m all e = absurd (none-some m e)
below_found x (f ∷ places) p m all e = elim (either (is_at (place_cmp p) f.0)) [
  | inl hit ↦ ap (λ (q : Place). place_cmp x q) (same_is p f.0 hit) ∙ all.0
  | inr miss ↦ below_found x places p m all.1 (rw miss at e)
]

less_differs : (p q : Place) → place_cmp p q ≡ Less → p ≡ q → ⊥
less_differs p q less e =
    let self : place_cmp q q ≡ Equal = (Equal-is (place_cmp q q)).0 (self_same q) in
    let f : place_cmp q q ≡ Less = ap (λ (r : Place). place_cmp r q) (sym e) ∙ less in
    let g : Less ≡ Equal = sym f ∙ self in
    cc

-- what is found behind the first is found
pub behind_first : (f : Place × ℕ) (places : Index) (p : Place) (m : ℕ) → IsStrictlySortedBy place_cmp (keys_of (f ∷ places)) → number_at_place places p ≡ Some m → number_at_place (f ∷ places) p ≡ Some m
unfolding IsStrictlySortedBy
behind_first f places p m up e = rw (not_same p f.0 (λ same. less_differs f.0 p (below_found f.0 places p m up.0 e) (sym same))) e

-- a number that is kept stands at a place that is kept
pub any_found : (keep : Place → Bool) (places : Index) (m : ℕ) → IsStrictlySortedBy place_cmp (keys_of places) → has m (kept keep places) ≡ true → (p : Place) × (number_at_place places p ≡ Some m) × (keep p ≡ true)
unfolding IsStrictlySortedBy
any_found keep [] m up e = absurd (true≢false (sym e))
any_found keep (f ∷ places) m up e = elim (either (keep f.0)) [
  | inr out ↦ let r = any_found keep places m up.1 (rw out at e) in (r.0, behind_first f places r.0 m up r.1, r.2)
  | inl held ↦
      let g : (eqb f.1 m || has m (kept keep places)) ≡ true = rw held at e in
      elim (either (eqb f.1 m)) [
        | inl hit ↦ (f.0, rw (self_same f.0) (ap (λ (k : ℕ). Some k) (eqb-true f.1 m hit)), held)
        | inr miss ↦ let r = any_found keep places m up.1 (rw miss at g) in (r.0, behind_first f places r.0 m up r.1, r.2)
      ]
]

or_true : (b : Bool) → (b || true) ≡ true
or_true true = refl
or_true false = refl

-- a number at a place that is kept is kept
pub any_made : (keep : Place → Bool) (places : Index) (p : Place) (m : ℕ) → number_at_place places p ≡ Some m → keep p ≡ true → has m (kept keep places) ≡ true
any_made keep [] p m e k = absurd (none-some m e)
any_made keep (f ∷ places) p m e k = elim (either (is_at (place_cmp p) f.0)) [
  | inl hit ↦
      let held : keep f.0 ≡ true = ap keep (sym (same_is p f.0 hit)) ∙ k in
      let number : eqb f.1 m ≡ true = eq-eqb f.1 m (some_is f.1 m (rw hit at e)) in
      rw (held, number) refl
  | inr miss ↦
      let later : has m (kept keep places) ≡ true = any_made keep places p m (rw miss at e) k in
      elim (either (keep f.0)) [
        | inl held ↦ rw (held, later) (or_true (eqb f.1 m))
        | inr out ↦ rw out later
      ]
]

-- no two places have one number
abbrev OnePlace : Index → Type 0
OnePlace places = (p q : Place) (m : ℕ) → number_at_place places p ≡ Some m → number_at_place places q ≡ Some m → p ≡ q

pub all_once : (keep : Place → Bool) (places : Index) → IsStrictlySortedBy place_cmp (keys_of places) → OnePlace places → are_distinct (kept keep places) ≡ true
unfolding IsStrictlySortedBy
all_once keep [] up one = refl
all_once keep (f ∷ places) up one =
    let later = all_once keep places up.1 (λ p q m e g. one p q m (behind_first f places p m up e) (behind_first f places q m up g)) in
    elim (either (keep f.0)) [
      | inr out ↦ rw out later
      | inl held ↦
          let none : has f.1 (kept keep places) ≡ false = elim (either (has f.1 (kept keep places))) [
            | inr absent ↦ absent
            | inl present ↦
                let r = any_found keep places f.1 up.1 present in
                let here : number_at_place (f ∷ places) f.0 ≡ Some f.1 = rw (self_same f.0) refl in
                let same : r.0 ≡ f.0 = one r.0 f.0 f.1 (behind_first f places r.0 f.1 up r.1) here in
                absurd (less_differs f.0 r.0 (below_found f.0 places r.0 f.1 up.0 r.1) (sym same))
          ] in
          rw (held, none) later
    ]

-- ---- the run of a parent

pub bounds_are : (parent : ℕ) (p : Place) (b : ℕ) (rest : List ℕ) → p.name ≡ b ∷ rest → 0 < b → b < 255 → range_contains place_cmp (Included (first_under parent)) (Included (last_under parent)) p ≡ eqb p.parent parent
bounds_are parent p b rest name low high = one (nat_cmp parent p.parent) refl where
  from_low : nat_cmp 0 b ≡ Less
  from_low = sym (nat_cmp_is 0 b Less low)

  to_high : nat_cmp 255 b ≡ Greater
  to_high = sym (nat_cmp_is 255 b Greater high)

  apart : (o : Ordering) → nat_cmp parent p.parent ≡ o → (o ≡ Equal → ⊥) → eqb p.parent parent ≡ false
  apart o e other = elim (either (eqb p.parent parent)) [
    | inr absent ↦ absent
    | inl present ↦ absurd (other (sym e ∙ sym (nat_cmp_is parent p.parent Equal (sym (eqb-true p.parent parent present)))))
  ]

  one : (o : Ordering) → nat_cmp parent p.parent ≡ o → range_contains place_cmp (Included (first_under parent)) (Included (last_under parent)) p ≡ eqb p.parent parent
  one Less e = rw (apart Less e (λ f. cc), e) refl
  one Equal e =
      let same : eqb p.parent parent ≡ true = eq-eqb p.parent parent (sym (at_is parent p.parent (ap is_eq e))) in
      rw (same, e, name, from_low, to_high) refl
  one Greater e = rw (apart Greater e (λ f. cc), e) refl

pub is_forward : (parent : ℕ) → is_gt (place_cmp (first_under parent) (last_under parent)) ≡ false
is_forward parent = let e : nat_cmp parent parent ≡ Equal = (Equal-is (nat_cmp parent parent)).0 (at_self parent) in rw e refl

-- the place of a node lies between the bounds of its parent
pub place_between : (nodes : List Numbered) (n : ℕ) (node : Node) (parent : ℕ) → IsNodeTable nodes → node_at nodes n ≡ Some node
    → range_contains place_cmp (Included (first_under parent)) (Included (last_under parent)) (place_of node) ≡ eqb node.parent parent
place_between nodes n node parent t e =
    let f = place_head node (is_part_at nodes n node t e) in
    bounds_are parent (place_of node) f.byte f.rest f.name f.some f.small ∙ ap (λ (m : ℕ). eqb m parent) (place_parent node)

pub under_is : (nodes : List Numbered) (places : Index) (parent : ℕ) (numbers : List ℕ) → IsNodeTable nodes → IsIndex nodes places → IsStrictlySortedBy place_cmp (keys_of places) → numbers ≡ numbers_under places parent
    → (n : ℕ) → has n numbers ≡ is_under_parent nodes parent n
under_is nodes places parent numbers t i up is n = ap (λ (ns : List ℕ). has n ns) is ∙ one (node_at nodes n) refl where
  -- what is found is the node at the number
  found : has n (kept (keeps parent) places) ≡ true → (node : Node) × (node_at nodes n ≡ Some node) × (eqb node.parent parent ≡ true)
  found e =
      let r = any_found (keeps parent) places n up e in
      let s = stands nodes n r.0 (i.only r.0 n r.1) in
      (s.0, s.1, sym (place_between nodes n s.0 parent t s.1) ∙ (ap (keeps parent) s.2 ∙ r.2))

  none : ((node : Node) → node_at nodes n ≡ Some node → eqb node.parent parent ≡ false) → has n (kept (keeps parent) places) ≡ false
  none other = elim (either (has n (kept (keeps parent) places))) [
    | inr absent ↦ absent
    | inl present ↦ let f = found present in absurd (true≢false (sym f.2 ∙ other f.0 f.1))
  ]

  one : (o : Option Node) → node_at nodes n ≡ o → has n (numbers_under places parent) ≡ is_under_parent nodes parent n
  one None e = rw e (none (λ node f. absurd (none-some node (sym e ∙ f))))
  one (Some node) e = elim (either (eqb node.parent parent)) [
    | inl hit ↦ rw (e, hit) (any_made (keeps parent) places (place_of node) n (i.there n node e) (place_between nodes n node parent t e ∙ hit))
    | inr miss ↦ rw (e, miss) (none (λ other f. ap (λ (x : Node). eqb x.parent parent) (some_is other node (sym f ∙ e)) ∙ miss))
  ]

pub under_once : (nodes : List Numbered) (places : Index) (parent : ℕ) (numbers : List ℕ) → IsIndex nodes places → IsStrictlySortedBy place_cmp (keys_of places) → numbers ≡ numbers_under places parent → are_distinct numbers ≡ true
under_once nodes places parent numbers i up is =
    ap are_distinct is ∙ all_once (keeps parent) places up one where
      one : OnePlace places
      one p q m e f =
          let s = stands nodes m p (i.only p m e) in
          let r = stands nodes m q (i.only q m f) in
          sym s.2 ∙ (ap place_of (some_is s.0 r.0 (sym s.1 ∙ r.1)) ∙ r.2)

-- ---- whether a run has numbers

pub some_number : (es : Index) (x : Place × ℕ) (rest : Index) (numbers : List ℕ) → es ≡ x ∷ rest → map (λ (e : Place × ℕ). e.1) es ≡ numbers → true ≡ nat_lt 0 (length numbers)
some_number es x rest numbers e is = sym (lt-ltb 0 (length numbers) (rw (← is) (rw e (omega arith))))

pub no_number : (es : Index) (numbers : List ℕ) → es ≡ [] → map (λ (e : Place × ℕ). e.1) es ≡ numbers → false ≡ nat_lt 0 (length numbers)
no_number es numbers e is = sym (ap (λ (ns : List ℕ). nat_lt 0 (length ns)) (sym is ∙ ap (λ (xs : Index). map (λ (f : Place × ℕ). f.1) xs) e))
