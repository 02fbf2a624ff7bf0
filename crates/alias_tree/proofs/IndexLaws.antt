-- The index stays that of the nodes.
use Rattle.std.proofs.Common.{◌≡◌, ℕ, ◌≤◌, Bool, true, false, cond, Ordering, List, [], ◌∷◌, length, Option, Some, None, refl, sym, ap, subst, ◌∙◌, inl, inr, ◌⊎◌}
use Rattle.std.specs.Prelude.{IsTrue, is_some, Result, Ok, Err, OnOk, OnErr}
use Rattle.std.specs.Result.{is_err}
use Rattle.std.specs.Cmp.{Equal-is}
use Rattle.std.specs.FinMap as maps
use Rattle.std.specs.List.{AllByRecursion}
use Rattle.std.specs.Option.{option_map}
use Rattle.std.specs.Ordering.{nat_cmp, is_lt}
use Rattle.std.specs.declared.cmp.Ordering.TheVariants.{Less, Equal, Greater}
use Rattle.std.specs.BTreeMap.{is_at}
use Rattle.std.proofs.lemmas.Bool.{true≢false}
use Rattle.std.proofs.lemmas.Cmp.{nat_cmp_total, eq_by_cmp_equiv}
use Rattle.std.proofs.lemmas.Option.{none-some}
use Rattle.asm_formats.specs.Items.{Node, node_item, is_item}
use Rattle.asm_base.specs.Records.{Ascend}
use Rattle.asm_base.specs.Tables.{IsItemTable}
use Rattle.asm_base.proofs.Exact.{some_is}
use Rattle.alias_tree.specs.Nodes.{Numbered, item_of_node, is_before, node_at, with_numbered_node, IsNodeTable}
use Rattle.alias_tree.specs.Places.{Place, place_of, is_same_place, number_at_place, StandsAt, IsIndex, without_place, IsNodeAmong}
use Rattle.alias_tree.proofs.PlaceLaws.{same_is, self_same, one_name}
use Rattle.alias_tree.proofs.Readings.{name_is_short}

pub either : (b : Bool) → (b ≡ true) ⊎ (b ≡ false)
either true = inl refl
either false = inr refl

-- ---- numbers

pub at_is : (m n : ℕ) → is_at (nat_cmp m) n ≡ true → m ≡ n
at_is m n e = maps.nat_cmp-IsAntisymmetric m n ((Equal-is (nat_cmp m n)).0 e)

pub at_self : (n : ℕ) → is_at (nat_cmp n) n ≡ true
at_self n = (eq_by_cmp_equiv nat_cmp_total).refl n

pub not_at : (m n : ℕ) → (m ≡ n → ⊥) → is_at (nat_cmp m) n ≡ false
not_at m n other = elim (either (is_at (nat_cmp m) n)) [ inl x ↦ absurd (other (at_is m n x)) | inr x ↦ x ]

pub not_same : (p q : Place) → (p ≡ q → ⊥) → is_same_place p q ≡ false
not_same p q other = elim (either (is_same_place p q)) [ inl x ↦ absurd (other (same_is p q x)) | inr x ↦ x ]

-- ---- what a table says of a node

-- the node at a number is one of the list
pub at_member : (nodes : List Numbered) (n : ℕ) (node : Node) → node_at nodes n ≡ Some node → IsNodeAmong (n, node) nodes
at_member [] n node e = absurd cc
at_member (x ∷ nodes) n node e = elim (either (is_at (nat_cmp n) x.0)) [
  | inl hit ↦ let v : x.1 ≡ node = some_is x.1 node (rw hit at e) in inl (ap (λ (m : ℕ). (m, node)) (at_is n x.0 hit) ∙ ap (λ (m : Node). (x.0, m)) (sym v))
  | inr miss ↦ inr (at_member nodes n node (rw miss at e))
]

pub member_of_all : (P : Numbered → Type 0) (nodes : List Numbered) (x : Numbered) → AllByRecursion P nodes → IsNodeAmong x nodes → P x
member_of_all P [] x all m = absurd m
member_of_all P (y ∷ nodes) x all m = elim m [ inl e ↦ subst P (sym e) all.0 | inr later ↦ member_of_all P nodes x all.1 later ]

pub item_at : (nodes : List Numbered) (n : ℕ) (node : Node) → IsItemTable is_before item_of_node nodes → node_at nodes n ≡ Some node → IsTrue (is_item (node_item n node))
item_at nodes n node t e = member_of_all (λ x. IsTrue (is_item (item_of_node x))) nodes (n, node) t.1 (at_member nodes n node e)

pub nodes_of : (nodes : List Numbered) → IsNodeTable nodes → IsItemTable is_before item_of_node nodes
nodes_of nodes t = t.items

pub name_of_item : (nodes : List Numbered) (n : ℕ) (node : Node) → IsItemTable is_before item_of_node nodes → node_at nodes n ≡ Some node → length node.name ≤ 80
name_of_item nodes n node t e = name_is_short n node (item_at nodes n node t e)

pub name_at : (nodes : List Numbered) (n : ℕ) (node : Node) → IsNodeTable nodes → node_at nodes n ≡ Some node → length node.name ≤ 80
name_at nodes n node t e = name_is_short n node (item_at nodes n node t.items e)

with_here : (nodes : List Numbered) (n : ℕ) (node : Node) → node_at (with_numbered_node nodes n node) n ≡ Some node
with_here [] n node = rw (at_self n) refl
with_here (x ∷ nodes) n node = one (nat_cmp n x.0) refl (with_here nodes n node) where
  one : (o : Ordering) → nat_cmp n x.0 ≡ o → node_at (with_numbered_node nodes n node) n ≡ Some node → node_at (with_numbered_node (x ∷ nodes) n node) n ≡ Some node
  one Less e more = rw (e, at_self n) refl
  one Equal e more = rw (e, e) refl
  one Greater e more = rw (e, e) more

pub name_after : (nodes : List Numbered) (n : ℕ) (node : Node) → IsNodeTable (with_numbered_node nodes n node) → length node.name ≤ 80
name_after nodes n node t = name_at (with_numbered_node nodes n node) n node t (with_here nodes n node)

-- ---- numbers ascend

less_is : (o : Ordering) → is_lt o ≡ true → o ≡ Less
less_is Less e = refl
less_is Equal e = absurd cc
less_is Greater e = absurd cc

pub first_below : (x : Numbered) (nodes : List Numbered) (y : Numbered) → Ascend is_before (x ∷ nodes) → IsNodeAmong y nodes → nat_cmp x.0 y.0 ≡ Less
first_below x [] y up m = absurd m
first_below x (z ∷ nodes) y up m = elim m [
  | inl e ↦ subst (λ (w : Numbered). nat_cmp x.0 w.0 ≡ Less) (sym e) (less_is (nat_cmp x.0 z.0) up.0)
  | inr later ↦ nat_cmp_total.trans x.0 z.0 y.0 (less_is (nat_cmp x.0 z.0) up.0) (first_below z nodes y up.1 later)
]

pub less_apart : (m n : ℕ) → nat_cmp m n ≡ Less → m ≡ n → ⊥
less_apart m n less e =
    let self : nat_cmp n n ≡ Equal = (Equal-is (nat_cmp n n)).0 (at_self n) in
    let f : nat_cmp n n ≡ Less = rw e at less in
    let g : Less ≡ Equal = sym f ∙ self in
    cc

pub tail_up : (x : Numbered) (nodes : List Numbered) → Ascend is_before (x ∷ nodes) → Ascend is_before nodes
tail_up x [] up = tt
tail_up x (y ∷ nodes) up = up.1

-- each node of the list is the one at its number
pub member_at : (nodes : List Numbered) (x : Numbered) → Ascend is_before nodes → IsNodeAmong x nodes → node_at nodes x.0 ≡ Some x.1
member_at [] x up m = absurd m
member_at (y ∷ nodes) x up m = elim m [
  | inl e ↦ subst (λ (z : Numbered). node_at (y ∷ nodes) z.0 ≡ Some z.1) (sym e) (rw (at_self y.0) refl)
  | inr later ↦ rw (not_at x.0 y.0 (λ e. less_apart y.0 x.0 (first_below y nodes x up later) (sym e))) (member_at nodes x (tail_up y nodes up) later)
]

-- ---- no nodes

pub no_nodes : IsNodeTable []
no_nodes = record {
  items = (tt, tt);
  rule = record {
    parents = λ n node parent e f. absurd (none-some node e);
    rooted = λ n node e. absurd (none-some node e);
    distinct = λ m n a b e f g h. absurd (none-some a e);
  };
}

pub no_places : IsIndex [] []
no_places = record { there = λ n node e. absurd (none-some node e); only = λ p n e. absurd (none-some n e) }

-- ---- the index after a change

pub index_stays : (nodes : List Numbered) (places after : List (Place × ℕ)) → IsIndex nodes places → ((q : Place) → number_at_place after q ≡ number_at_place places q) → IsIndex nodes after
index_stays nodes places after i same = record {
  there = λ n node e. same (place_of node) ∙ i.there n node e;
  only = λ p n e. i.only p n (sym (same p) ∙ e);
}

-- a place that was put and taken away again
pub put_and_gone : (nodes : List Numbered) (places between after : List (Place × ℕ)) (at : Place) (n : ℕ) → IsIndex nodes places → number_at_place places at ≡ None
    → ((q : Place) → number_at_place between q ≡ cond (is_same_place at q) (Some n) (number_at_place places q)) → ((q : Place) → number_at_place after q ≡ cond (is_same_place at q) None (number_at_place between q)) → IsIndex nodes after
put_and_gone nodes places between after at n i free put gone = index_stays nodes places after i same where
  same : (q : Place) → number_at_place after q ≡ number_at_place places q
  same q = elim (either (is_same_place at q)) [
    | inl hit ↦ gone q ∙ (rw hit (sym (ap (λ (p : Place). number_at_place places p) (sym (same_is at q hit)) ∙ free)))
    | inr miss ↦ gone q ∙ rw miss (put q ∙ rw miss refl)
  ]

-- the node at a place
pub stands : (nodes : List Numbered) (m : ℕ) (p : Place) → StandsAt (node_at nodes m) p → (node : Node) × (node_at nodes m ≡ Some node) × (place_of node ≡ p)
stands nodes m p s = one (node_at nodes m) refl s where
  one : (o : Option Node) → node_at nodes m ≡ o → StandsAt o p → (node : Node) × (node_at nodes m ≡ Some node) × (place_of node ≡ p)
  one None e s = absurd s
  one (Some node) e s = (node, e, s)

pub it_stands : (nodes : List Numbered) (m : ℕ) (node : Node) (p : Place) → node_at nodes m ≡ Some node → place_of node ≡ p → StandsAt (node_at nodes m) p
it_stands nodes m node p e s = rw e s

-- without the place of the node that was at a number
abbrev old_place : List Numbered → ℕ → Option Place
old_place nodes n = option_map place_of (node_at nodes n)

-- A place that isn't the old one of the node stays.
kept_place : (nodes : List Numbered) (places : List (Place × ℕ)) (key m : ℕ) (q : Place) (number : Option ℕ) → IsIndex nodes places → number_at_place places q ≡ Some m → (key ≡ m → ⊥) → without_place (old_place nodes key) q number ≡ number
kept_place nodes places key m q number i e other = one (node_at nodes key) refl where
  one : (o : Option Node) → node_at nodes key ≡ o → without_place (option_map place_of o) q number ≡ number
  one None f = refl
  one (Some node) f = rw (not_same (place_of node) q (λ same. other (some_is key m (sym (i.there key node f) ∙ (ap (λ (p : Place). number_at_place places p) same ∙ e))))) refl

-- A place that is left when the old one is gone isn't the old one.
left_place : (nodes : List Numbered) (key : ℕ) (q : Place) (number : Option ℕ) (m : ℕ) → without_place (old_place nodes key) q number ≡ Some m → (number ≡ Some m) × ((node : Node) → node_at nodes key ≡ Some node → place_of node ≡ q → ⊥)
left_place nodes key q number m e = one (node_at nodes key) refl e where
  one : (o : Option Node) → node_at nodes key ≡ o → without_place (option_map place_of o) q number ≡ Some m → (number ≡ Some m) × ((node : Node) → node_at nodes key ≡ Some node → place_of node ≡ q → ⊥)
  one None f e = (e, λ node g s. none-some node (sym f ∙ g))
  one (Some node) f e = elim (either (is_same_place (place_of node) q)) [
    | inl hit ↦ absurd (none-some m (rw hit at e))
    | inr miss ↦ (rw miss at e, λ other g s. true≢false (sym (self_same q) ∙ (ap (λ (p : Place). is_same_place p q) (sym s ∙ ap place_of (some_is other node (sym g ∙ f))) ∙ miss)))
  ]

-- a node is put at a place where none is
pub put_new : (nodes new : List Numbered) (places between after : List (Place × ℕ)) (at : Place) (key : ℕ) (item : Node) → IsIndex nodes places → at ≡ place_of item → number_at_place places at ≡ None
    → ((n : ℕ) → node_at new n ≡ cond (is_at (nat_cmp key) n) (Some item) (node_at nodes n))
    → ((q : Place) → number_at_place between q ≡ cond (is_same_place at q) (Some key) (number_at_place places q))
    → ((q : Place) → number_at_place after q ≡ without_place (old_place nodes key) q (number_at_place between q)) → IsIndex new after
put_new nodes new places between after at key item i is free nodes_are put gone = record { there = there; only = only } where
  free_item : number_at_place places (place_of item) ≡ None
  free_item = ap (λ (p : Place). number_at_place places p) (sym is) ∙ free

  put_item : (q : Place) → number_at_place between q ≡ cond (is_same_place (place_of item) q) (Some key) (number_at_place places q)
  put_item q = put q ∙ ap (λ (p : Place). cond (is_same_place p q) (Some key) (number_at_place places q)) is

  -- the old node's place is another
  not_old : (old : Node) → node_at nodes key ≡ Some old → place_of old ≡ place_of item → ⊥
  not_old old e s = none-some key (sym free_item ∙ (ap (λ (p : Place). number_at_place places p) (sym s) ∙ i.there key old e))

  here : without_place (old_place nodes key) (place_of item) (Some key) ≡ Some key
  here = one (node_at nodes key) refl where
    one : (o : Option Node) → node_at nodes key ≡ o → without_place (option_map place_of o) (place_of item) (Some key) ≡ Some key
    one None e = refl
    one (Some old) e = rw (not_same (place_of old) (place_of item) (not_old old e)) refl

  at_item : number_at_place after (place_of item) ≡ Some key
  at_item =
      let b : number_at_place between (place_of item) ≡ Some key = put_item (place_of item) ∙ rw (self_same (place_of item)) refl in
      gone (place_of item) ∙ (ap (λ (o : Option ℕ). without_place (old_place nodes key) (place_of item) o) b ∙ here)

  there : (n : ℕ) (node : Node) → node_at new n ≡ Some node → number_at_place after (place_of node) ≡ Some n
  there n node e = elim (either (is_at (nat_cmp key) n)) [
    | inl hit ↦
        let same : item ≡ node = some_is item node (sym (rw hit at (nodes_are n)) ∙ e) in
        ap (λ (x : Node). number_at_place after (place_of x)) (sym same) ∙ (at_item ∙ ap (λ (x : ℕ). Some x) (at_is key n hit))
    | inr miss ↦
        let old : node_at nodes n ≡ Some node = sym (rw miss at (nodes_are n)) ∙ e in
        let p = i.there n node old in
        let apart : is_same_place (place_of item) (place_of node) ≡ false = not_same (place_of item) (place_of node) (λ s. none-some n (sym free_item ∙ (ap (λ (q : Place). number_at_place places q) s ∙ p))) in
        let b : number_at_place between (place_of node) ≡ Some n = put_item (place_of node) ∙ (rw apart p) in
        gone (place_of node) ∙ (ap (λ (o : Option ℕ). without_place (old_place nodes key) (place_of node) o) b ∙ kept_place nodes places key n (place_of node) (Some n) i p (λ s. true≢false (sym (rw s (at_self n)) ∙ miss)))
  ]

  only : (p : Place) (m : ℕ) → number_at_place after p ≡ Some m → StandsAt (node_at new m) p
  only p m e =
      let l = left_place nodes key p (number_at_place between p) m (sym (gone p) ∙ e) in
      elim (either (is_same_place (place_of item) p)) [
        | inl hit ↦
            let number : key ≡ m = some_is key m (sym (rw hit at (put_item p)) ∙ l.0) in
            it_stands new m item p (nodes_are m ∙ rw (← number, at_self key) refl) (same_is (place_of item) p hit)
        | inr miss ↦
            let before : number_at_place places p ≡ Some m = sym (rw miss at (put_item p)) ∙ l.0 in
            let s = stands nodes m p (i.only p m before) in
            let other : is_at (nat_cmp key) m ≡ false = not_at key m (λ same. l.1 s.0 (ap (λ (n : ℕ). node_at nodes n) same ∙ s.1) s.2) in
            it_stands new m s.0 p (nodes_are m ∙ rw other s.1) s.2
      ]

-- a node is put where its old place is its new one
pub put_same : (nodes new : List Numbered) (places : List (Place × ℕ)) (at : Place) (key : ℕ) (item : Node) → IsIndex nodes places → IsNodeTable new → at ≡ place_of item → is_some (number_at_place places at) ≡ true
    → ((n : ℕ) → node_at new n ≡ cond (is_at (nat_cmp key) n) (Some item) (node_at nodes n)) → IsIndex new places
put_same nodes new places at key item i table is some nodes_are = record { there = there; only = only } where
  here : node_at new key ≡ Some item
  here = nodes_are key ∙ rw (at_self key) refl

  -- the number at the place is this one
  mine : (o : Option ℕ) → number_at_place places (place_of item) ≡ o → is_some o ≡ true → number_at_place places (place_of item) ≡ Some key
  mine None e s = absurd (true≢false (sym s))
  mine (Some m) e s =
      elim (either (is_at (nat_cmp key) m)) [
        | inl hit ↦ e ∙ ap (λ (x : ℕ). Some x) (sym (at_is key m hit))
        | inr miss ↦
            let node = stands nodes m (place_of item) (i.only (place_of item) m e) in
            let there_too : node_at new m ≡ Some node.0 = nodes_are m ∙ rw miss node.1 in
            let names = one_name node.0.parent item.parent node.0.name item.name node.2 in
            let same : m ≡ key = table.rule.distinct m key node.0 item there_too here names.0 names.1 in
            absurd (true≢false (sym (rw same (at_self key)) ∙ miss))
      ]

  at_item : number_at_place places (place_of item) ≡ Some key
  at_item = mine (number_at_place places (place_of item)) refl (ap (λ (p : Place). is_some (number_at_place places p)) (sym is) ∙ some)

  there : (n : ℕ) (node : Node) → node_at new n ≡ Some node → number_at_place places (place_of node) ≡ Some n
  there n node e = elim (either (is_at (nat_cmp key) n)) [
    | inl hit ↦
        let same : item ≡ node = some_is item node (sym (rw hit at (nodes_are n)) ∙ e) in
        ap (λ (x : Node). number_at_place places (place_of x)) (sym same) ∙ (at_item ∙ ap (λ (x : ℕ). Some x) (at_is key n hit))
    | inr miss ↦ i.there n node (sym (rw miss at (nodes_are n)) ∙ e)
  ]

  only : (p : Place) (m : ℕ) → number_at_place places p ≡ Some m → StandsAt (node_at new m) p
  only p m e =
      let s = stands nodes m p (i.only p m e) in
      elim (either (is_at (nat_cmp key) m)) [
        | inl hit ↦
            let old = stands nodes key (place_of item) (i.only (place_of item) key at_item) in
            let one : s.0 ≡ old.0 = some_is s.0 old.0 (sym s.1 ∙ (ap (λ (n : ℕ). node_at nodes n) (sym (at_is key m hit)) ∙ old.1)) in
            it_stands new m item p (nodes_are m ∙ rw hit refl) (sym old.2 ∙ (ap place_of (sym one) ∙ s.2))
        | inr miss ↦ it_stands new m s.0 p (nodes_are m ∙ rw miss s.1) s.2
      ]

-- a node goes
pub index_without : (nodes new : List Numbered) (places after : List (Place × ℕ)) (key : ℕ) → IsIndex nodes places
    → ((n : ℕ) → node_at new n ≡ cond (is_at (nat_cmp key) n) None (node_at nodes n))
    → ((q : Place) → number_at_place after q ≡ without_place (old_place nodes key) q (number_at_place places q)) → IsIndex new after
index_without nodes new places after key i nodes_are gone = record { there = there; only = only } where
  there : (n : ℕ) (node : Node) → node_at new n ≡ Some node → number_at_place after (place_of node) ≡ Some n
  there n node e = elim (either (is_at (nat_cmp key) n)) [
    | inl hit ↦ absurd (none-some node (sym (rw hit at (nodes_are n)) ∙ e))
    | inr miss ↦
        let p = i.there n node (sym (rw miss at (nodes_are n)) ∙ e) in
        gone (place_of node) ∙ (kept_place nodes places key n (place_of node) (number_at_place places (place_of node)) i p (λ s. true≢false (sym (rw s (at_self n)) ∙ miss)) ∙ p)
  ]

  only : (p : Place) (m : ℕ) → number_at_place after p ≡ Some m → StandsAt (node_at new m) p
  only p m e =
      let l = left_place nodes key p (number_at_place places p) m (sym (gone p) ∙ e) in
      let s = stands nodes m p (i.only p m l.0) in
      let other : is_at (nat_cmp key) m ≡ false = not_at key m (λ same. l.1 s.0 (ap (λ (n : ℕ). node_at nodes n) same ∙ s.1) s.2) in
      it_stands new m s.0 p (nodes_are m ∙ rw other s.1) s.2

-- the same, where there may be no memory
pub put_same_or_not : {A E : Type 0} (r : Result A E) (nodes new : List Numbered) (places : List (Place × ℕ)) (at : Place) (key : ℕ) (item : Node) → IsIndex nodes places → IsNodeTable (with_numbered_node nodes key item) → at ≡ place_of item
    → is_some (number_at_place places at) ≡ true → OnOk r (new ≡ with_numbered_node nodes key item) → OnOk r ((n : ℕ) → node_at new n ≡ cond (is_at (nat_cmp key) n) (Some item) (node_at nodes n)) → OnErr r (new ≡ nodes) → IsIndex new places
put_same_or_not (Ok x) nodes new places at key item i table is some ok nodes_are err = put_same nodes new places at key item i (subst (λ (ns : List Numbered). IsNodeTable ns) (sym ok) table) is some nodes_are
put_same_or_not (Err e) nodes new places at key item i table is some ok nodes_are err = subst (λ (ns : List Numbered). IsIndex ns places) (sym err) i

pub ok_of : {A E : Type 0} (r : Result A E) (P : Type 0) → is_err r ≡ false → OnOk r P → P
ok_of (Ok x) P e p = p
ok_of (Err x) P e p = absurd (true≢false e)

pub err_of : {A E : Type 0} (r : Result A E) (P : Type 0) → is_err r ≡ true → OnErr r P → P
err_of (Ok x) P e p = absurd (true≢false (sym e))
err_of (Err x) P e p = p
