-- The index of the names by file stays that of the nodes.
use Rattle.std.proofs.Common.{◌≡◌, ℕ, ◌<◌, ◌^◌, Bool, true, false, cond, eqb, Ordering, List, Option, Some, None, refl, sym, ap, subst, ◌∙◌, inl, inr}
use Rattle.std.specs.Prelude.{IfNone, IfSome, is_some, not, ◌&&◌, ◌||◌}
use Rattle.std.specs.Cmp.{IsTotalOrder, Equal-is, bool_cmp_total}
use Rattle.std.specs.FinMap as maps
use Rattle.std.specs.BTreeMap.{is_at}
use Rattle.std.specs.Ordering.{nat_cmp, bool_cmp, ordering_then}
use Rattle.std.specs.declared.cmp.Ordering.TheVariants.{Less, Equal, Greater}
use Rattle.std.specs.List.{list_any}
use Rattle.std.proofs.lemmas.Bool.{true≢false, eq-eqb, eqb-true}
use Rattle.std.proofs.lemmas.Cmp.{nat_cmp_total, then_total, on_total, eq_by_cmp_equiv}
use Rattle.asm_group.specs.declared.NodeKind.{NodeKind}
use Rattle.asm_group.specs.declared.NodeKind.TheVariants.{Directory, System, Alias}
use Rattle.asm_group.specs.TreeEdits.{is_alias_of, names_file}
use Rattle.asm_formats.specs.Items.{Node}
use Rattle.asm_base.specs.Tables.{IsItemTable}
use Rattle.alias_tree.specs.Nodes.{Numbered, node_at, is_before, item_of_node}
use Rattle.asm_formats.specs.Nodes.{node_kind}
use Rattle.alias_tree.specs.FileNames.{FileName, name_cmp, is_same_file_name, has_name, is_it, is_left_there, name_by_kind, name_of_node, IsFileIndex, IsLow}
use Rattle.alias_tree.proofs.IndexLaws.{either, at_is, at_self, at_member, item_at, member_at}
use Rattle.alias_tree.proofs.Leading.{same_bool, any_some, any_of, among_member, member_among}
use Rattle.alias_tree.proofs.Readings.{number_is_some}

-- ---- the order

pub name_total : IsTotalOrder name_cmp
name_total =
    then_total (on_total (λ (p : FileName). p.file) nat_cmp_total) (then_total (on_total (λ (p : FileName). p.is_alias) bool_cmp_total) (on_total (λ (p : FileName). p.number) nat_cmp_total))

then_equal : (a b : Ordering) → ordering_then a b ≡ Equal → (a ≡ Equal) × (b ≡ Equal)
then_equal Equal b e = (refl, e)
then_equal Less b e = absurd cc
then_equal Greater b e = absurd cc

bool_is : (a b : Bool) → bool_cmp a b ≡ Equal → a ≡ b
bool_is true true e = refl
bool_is true false e = absurd cc
bool_is false true e = absurd cc
bool_is false false e = refl

abbrev made : ℕ → Bool → ℕ → FileName
made file is_alias number = record { file = file; is_alias = is_alias; number = number }

pub same_name : (p q : FileName) → is_same_file_name p q ≡ true → p ≡ q
same_name p q e =
    let whole = (Equal-is (name_cmp p q)).0 e in
    let a = then_equal (nat_cmp p.file q.file) (ordering_then (bool_cmp p.is_alias q.is_alias) (nat_cmp p.number q.number)) whole in
    let b = then_equal (bool_cmp p.is_alias q.is_alias) (nat_cmp p.number q.number) a.1 in
    let file : p.file ≡ q.file = maps.nat_cmp-IsAntisymmetric p.file q.file a.0 in
    let alias : p.is_alias ≡ q.is_alias = bool_is p.is_alias q.is_alias b.0 in
    let number : p.number ≡ q.number = maps.nat_cmp-IsAntisymmetric p.number q.number b.1 in
    ap (λ (x : ℕ). made x p.is_alias p.number) file ∙ (ap (λ (x : Bool). made q.file x p.number) alias ∙ ap (λ (x : ℕ). made q.file q.is_alias x) number)

pub name_self : (p : FileName) → is_same_file_name p p ≡ true
name_self p = (eq_by_cmp_equiv name_total).refl p

-- ---- a name goes, unless it is the one that is kept

pub gone_is : (gone : FileName) (kept : Option FileName) (q : FileName) (there : Bool) → is_it kept gone ≡ false → cond (is_same_file_name gone q) false there ≡ is_left_there (Some gone) kept q there
gone_is gone kept q there e = elim (either (is_same_file_name gone q)) [
  | inr miss ↦ rw miss refl
  | inl hit ↦ let none : is_it kept q ≡ false = ap (λ (p : FileName). is_it kept p) (sym (same_name gone q hit)) ∙ e in rw (hit, none) refl
]

-- ---- the name of a node

by_kind_number : (n file : ℕ) (kind : NodeKind) (q : FileName) → is_it (name_by_kind n file kind) q ≡ true → n ≡ q.number
by_kind_number n file Directory q e = absurd (true≢false (sym e))
by_kind_number n file System q e = ap (λ (p : FileName). p.number) (same_name (record { file = file; is_alias = false; number = n }) q e)
by_kind_number n file Alias q e = ap (λ (p : FileName). p.number) (same_name (record { file = file; is_alias = true; number = n }) q e)

name_number : (n : ℕ) (o : Option Node) (q : FileName) → is_it (name_of_node n o) q ≡ true → n ≡ q.number
name_number n None q e = absurd (true≢false (sym e))
name_number n (Some node) q e = by_kind_number n node.file node.kind q e

other_number : (n : ℕ) (o : Option Node) (q : FileName) → (n ≡ q.number → ⊥) → is_it (name_of_node n o) q ≡ false
other_number n o q other = elim (either (is_it (name_of_node n o) q)) [ inl x ↦ absurd (other (name_number n o q x)) | inr x ↦ x ]

-- ---- the index after a change

takes_new : (a b : Bool) → cond (b && not a) false (a || b) ≡ a
takes_new true true = refl
takes_new true false = refl
takes_new false true = refl
takes_new false false = refl

keeps_old : (a b : Bool) → cond (a && not b) false (a || b) ≡ b
keeps_old true true = refl
keeps_old true false = refl
keeps_old false true = refl
keeps_old false false = refl

-- what the index says of a name at this number
had : (nodes : List Numbered) (names : List FileName) (n : ℕ) (q : FileName) → IsFileIndex nodes names → n ≡ q.number → has_name names q ≡ is_it (name_of_node n (node_at nodes n)) q
had nodes names n q i number = i.same q ∙ ap (λ (m : ℕ). is_it (name_of_node m (node_at nodes m)) q) (sym number)

-- a node is put
pub put_name : (nodes new : List Numbered) (names between after : List FileName) (n : ℕ) (node : Node) → IsFileIndex nodes names
    → ((m : ℕ) → node_at new m ≡ cond (is_at (nat_cmp n) m) (Some node) (node_at nodes m))
    → ((q : FileName) → has_name between q ≡ (is_it (name_of_node n (Some node)) q || has_name names q))
    → ((q : FileName) → has_name after q ≡ is_left_there (name_of_node n (node_at nodes n)) (name_of_node n (Some node)) q (has_name between q)) → IsFileIndex new after
put_name nodes new names between after n node i nodes_are put gone = record { same = same } where
  same : (q : FileName) → has_name after q ≡ is_it (name_of_node q.number (node_at new q.number)) q
  same q = elim (either (is_at (nat_cmp n) q.number)) [
    | inl hit ↦
        let number : n ≡ q.number = at_is n q.number hit in
        let at : node_at new q.number ≡ Some node = nodes_are q.number ∙ rw hit refl in
        gone q ∙ (ap (λ (there : Bool). is_left_there (name_of_node n (node_at nodes n)) (name_of_node n (Some node)) q there) (put q ∙ ap (λ (there : Bool). is_it (name_of_node n (Some node)) q || there) (had nodes names n q i number))
        ∙ (takes_new (is_it (name_of_node n (Some node)) q) (is_it (name_of_node n (node_at nodes n)) q)
        ∙ (ap (λ (m : ℕ). is_it (name_of_node m (Some node)) q) number ∙ ap (λ (o : Option Node). is_it (name_of_node q.number o) q) (sym at))))
    | inr miss ↦
        let apart : n ≡ q.number → ⊥ = λ e. true≢false (sym (subst (λ (m : ℕ). is_at (nat_cmp n) m ≡ true) e (at_self n)) ∙ miss) in
        let at : node_at new q.number ≡ node_at nodes q.number = nodes_are q.number ∙ rw miss refl in
        gone q ∙ rw (other_number n (node_at nodes n) q apart) (put q ∙ rw (other_number n (Some node) q apart) (i.same q ∙ ap (λ (o : Option Node). is_it (name_of_node q.number o) q) (sym at)))
  ]

-- a node couldn't be put
pub put_no_name : (nodes : List Numbered) (names between after : List FileName) (n : ℕ) (node : Node) → IsFileIndex nodes names
    → ((q : FileName) → has_name between q ≡ (is_it (name_of_node n (Some node)) q || has_name names q))
    → ((q : FileName) → has_name after q ≡ is_left_there (name_of_node n (Some node)) (name_of_node n (node_at nodes n)) q (has_name between q)) → IsFileIndex nodes after
put_no_name nodes names between after n node i put gone = record { same = same } where
  same : (q : FileName) → has_name after q ≡ is_it (name_of_node q.number (node_at nodes q.number)) q
  same q = elim (either (is_at (nat_cmp n) q.number)) [
    | inl hit ↦
        let number : n ≡ q.number = at_is n q.number hit in
        gone q ∙ (ap (λ (there : Bool). is_left_there (name_of_node n (Some node)) (name_of_node n (node_at nodes n)) q there) (put q ∙ ap (λ (there : Bool). is_it (name_of_node n (Some node)) q || there) (had nodes names n q i number))
        ∙ (keeps_old (is_it (name_of_node n (Some node)) q) (is_it (name_of_node n (node_at nodes n)) q)
        ∙ ap (λ (m : ℕ). is_it (name_of_node m (node_at nodes m)) q) number))
    | inr miss ↦
        let apart : n ≡ q.number → ⊥ = λ e. true≢false (sym (subst (λ (m : ℕ). is_at (nat_cmp n) m ≡ true) e (at_self n)) ∙ miss) in
        gone q ∙ rw (other_number n (Some node) q apart) (put q ∙ rw (other_number n (Some node) q apart) (i.same q))
  ]

-- ---- the least number that may be free

pub low_put : (nodes new : List Numbered) (low n : ℕ) (node : Node) → IsLow nodes low → ((m : ℕ) → node_at new m ≡ cond (is_at (nat_cmp n) m) (Some node) (node_at nodes m)) → IsLow new low
low_put nodes new low n node l nodes_are = record {
  some = l.some;
  taken = λ k some below. elim (either (is_at (nat_cmp n) k)) [
    | inl hit ↦ let at : node_at new k ≡ Some node = nodes_are k ∙ rw hit refl in rw at refl
    | inr miss ↦ let at : node_at new k ≡ node_at nodes k = nodes_are k ∙ rw miss refl in rw at (l.taken k some below)
  ];
}

-- ---- the names of a file

-- a name that is there is a node's
pub record Shown (nodes : List Numbered) (q : FileName) : Type 0 where
  pub node : Node
  pub at : node_at nodes q.number ≡ Some node
  pub names : names_file q.file (node_kind node.kind node.file) ≡ true
  pub is_alias : is_alias_of q.file (node_kind node.kind node.file) ≡ q.is_alias

pub shown : (nodes : List Numbered) (names : List FileName) (q : FileName) → IsFileIndex nodes names → has_name names q ≡ true → Shown nodes q
shown nodes names q i e = one (node_at nodes q.number) refl (sym (i.same q) ∙ e) where
  two : (node : Node) (kind : NodeKind) → node.kind ≡ kind → node_at nodes q.number ≡ Some node → is_it (name_by_kind q.number node.file kind) q ≡ true → Shown nodes q
  two node Directory k at e = absurd (true≢false (sym e))
  two node System k at e =
      let same : made node.file false q.number ≡ q = same_name (made node.file false q.number) q e in
      record { node = node; at = at; names = rw k (eq-eqb node.file q.file (ap (λ (p : FileName). p.file) same)); is_alias = rw k (ap (λ (p : FileName). p.is_alias) same) }
  two node Alias k at e =
      let same : made node.file true q.number ≡ q = same_name (made node.file true q.number) q e in
      let file : eqb node.file q.file ≡ true = eq-eqb node.file q.file (ap (λ (p : FileName). p.file) same) in
      record { node = node; at = at; names = rw k file; is_alias = rw k (file ∙ ap (λ (p : FileName). p.is_alias) same) }

  one : (o : Option Node) → node_at nodes q.number ≡ o → is_it (name_of_node q.number o) q ≡ true → Shown nodes q
  one None at e = absurd (true≢false (sym e))
  one (Some node) at e = two node node.kind refl at e

-- a node that names a file has a name that is there
pub record Named (nodes : List Numbered) (names : List FileName) (file : ℕ) (x : Numbered) : Type 0 where
  pub q : FileName
  pub file_is : q.file ≡ file
  pub number_is : q.number ≡ x.0
  pub there : has_name names q ≡ true
  pub small : q.number < 2 ^ 32
  pub is_alias : is_alias_of file (node_kind x.1.kind x.1.file) ≡ q.is_alias

pub named : (nodes : List Numbered) (names : List FileName) (file n : ℕ) (node : Node) → IsItemTable is_before item_of_node nodes → IsFileIndex nodes names → node_at nodes n ≡ Some node → names_file file (node_kind node.kind node.file) ≡ true → Named nodes names file (n, node)
named nodes names file n node t i at e = one node.kind refl e where
  there : (q : FileName) → q.number ≡ n → is_it (name_by_kind n node.file node.kind) q ≡ true → has_name names q ≡ true
  there q number e = had nodes names n q i (sym number) ∙ (ap (λ (o : Option Node). is_it (name_of_node n o) q) at ∙ e)

  small : n < 2 ^ 32
  small = (number_is_some n node (item_at nodes n node t at)).1

  one : (kind : NodeKind) → node.kind ≡ kind → names_file file (node_kind kind node.file) ≡ true → Named nodes names file (n, node)
  one Directory k e = absurd (true≢false (sym e))
  one System k e = record {
    q = made node.file false n;
    file_is = eqb-true node.file file e;
    number_is = refl;
    there = there (made node.file false n) refl (rw k (name_self (made node.file false n)));
    small = small;
    is_alias = rw k refl;
  }
  one Alias k e = record {
    q = made node.file true n;
    file_is = eqb-true node.file file e;
    number_is = refl;
    there = there (made node.file true n) refl (rw k (name_self (made node.file true n)));
    small = small;
    is_alias = rw k e;
  }

alias_names : (file n : ℕ) (kind : NodeKind) → is_alias_of file (node_kind kind n) ≡ true → names_file file (node_kind kind n) ≡ true
alias_names file n Directory e = e
alias_names file n System e = absurd (true≢false (sym e))
alias_names file n Alias e = e

pub some_alias : (nodes : List Numbered) (names : List FileName) (file : ℕ) (found : Bool) → IsItemTable is_before item_of_node nodes → IsFileIndex nodes names
    → (found ≡ true → (q : FileName) × (q.file ≡ file) × (q.is_alias ≡ true) × (has_name names q ≡ true))
    → (found ≡ false → (q : FileName) → q.file ≡ file → q.is_alias ≡ true → q.number < 2 ^ 32 → has_name names q ≡ false)
    → found ≡ list_any (λ (x : Numbered). is_alias_of file (node_kind x.1.kind x.1.file)) nodes
some_alias nodes names file found t i some none = same_bool found (list_any (λ (x : Numbered). is_alias_of file (node_kind x.1.kind x.1.file)) nodes) there back where
  there : found ≡ true → list_any (λ (x : Numbered). is_alias_of file (node_kind x.1.kind x.1.file)) nodes ≡ true
  there e =
      let q = some e in
      let s = shown nodes names q.0 i q.3 in
      any_of (λ (x : Numbered). is_alias_of file (node_kind x.1.kind x.1.file)) nodes (q.0.number, s.node) (member_among nodes (q.0.number, s.node) (at_member nodes q.0.number s.node s.at))
      (ap (λ (f : ℕ). is_alias_of f (node_kind s.node.kind s.node.file)) (sym q.1) ∙ (s.is_alias ∙ q.2))

  back : list_any (λ (x : Numbered). is_alias_of file (node_kind x.1.kind x.1.file)) nodes ≡ true → found ≡ true
  back e =
      let x = any_some (λ (x : Numbered). is_alias_of file (node_kind x.1.kind x.1.file)) nodes e in
      let n = named nodes names file x.0.0 x.0.1 t i (member_at nodes x.0 t.0 (among_member nodes x.0 x.1)) (alias_names file x.0.1.file x.0.1.kind x.2) in
      elim (either found) [ inl hit ↦ hit | inr miss ↦ absurd (true≢false (sym n.there ∙ none miss n.q n.file_is (sym n.is_alias ∙ x.2) n.small)) ]

-- the same of all names
pub some_name : (nodes : List Numbered) (names : List FileName) (file : ℕ) (found : Option ℕ) → IsItemTable is_before item_of_node nodes → IsFileIndex nodes names
    → IfSome found (λ n. (q : FileName) × (q.file ≡ file) × (q.number ≡ n) × (has_name names q ≡ true))
    → IfNone found ((q : FileName) → q.file ≡ file → q.number < 2 ^ 32 → has_name names q ≡ false)
    → is_some found ≡ list_any (λ (x : Numbered). names_file file (node_kind x.1.kind x.1.file)) nodes
some_name nodes names file (Some n) t i some none =
    let s = shown nodes names some.0 i some.3 in
    sym (any_of (λ (x : Numbered). names_file file (node_kind x.1.kind x.1.file)) nodes (some.0.number, s.node) (member_among nodes (some.0.number, s.node) (at_member nodes some.0.number s.node s.at))
    (ap (λ (f : ℕ). names_file f (node_kind s.node.kind s.node.file)) (sym some.1) ∙ s.names))
some_name nodes names file None t i some none = elim (either (list_any (λ (x : Numbered). names_file file (node_kind x.1.kind x.1.file)) nodes)) [
  | inr miss ↦ sym miss
  | inl hit ↦
      let x = any_some (λ (x : Numbered). names_file file (node_kind x.1.kind x.1.file)) nodes hit in
      let n = named nodes names file x.0.0 x.0.1 t i (member_at nodes x.0 t.0 (among_member nodes x.0 x.1)) x.2 in
      absurd (true≢false (sym n.there ∙ none n.q n.file_is n.small))
]

-- ---- what a put does to all that is kept

pub put_keeps : (nodes new : List Numbered) (names between after : List FileName) (low n : ℕ) (node : Node) (was now : Option FileName) → IsFileIndex nodes names → IsLow nodes low
    → was ≡ name_of_node n (node_at nodes n) → now ≡ name_of_node n (Some node)
    → ((m : ℕ) → node_at new m ≡ cond (is_at (nat_cmp n) m) (Some node) (node_at nodes m))
    → ((q : FileName) → has_name between q ≡ (is_it now q || has_name names q))
    → ((q : FileName) → has_name after q ≡ is_left_there was now q (has_name between q)) → IsFileIndex new after × IsLow new low
put_keeps nodes new names between after low n node was now i l was_is now_is nodes_are put gone = (
  put_name nodes new names between after n node i nodes_are (λ q. put q ∙ ap (λ (o : Option FileName). is_it o q || has_name names q) now_is)
      (λ q. gone q ∙ (ap (λ (o : Option FileName). is_left_there o now q (has_name between q)) was_is ∙ ap (λ (o : Option FileName). is_left_there (name_of_node n (node_at nodes n)) o q (has_name between q)) now_is)),
  low_put nodes new low n node l nodes_are,
)

pub no_put_keeps : (nodes : List Numbered) (names between after : List FileName) (low n : ℕ) (node : Node) (was now : Option FileName) → IsFileIndex nodes names → IsLow nodes low
    → was ≡ name_of_node n (node_at nodes n) → now ≡ name_of_node n (Some node)
    → ((q : FileName) → has_name between q ≡ (is_it now q || has_name names q))
    → ((q : FileName) → has_name after q ≡ is_left_there now was q (has_name between q)) → IsFileIndex nodes after × IsLow nodes low
no_put_keeps nodes names between after low n node was now i l was_is now_is put gone = (
  put_no_name nodes names between after n node i (λ q. put q ∙ ap (λ (o : Option FileName). is_it o q || has_name names q) now_is)
      (λ q. gone q ∙ (ap (λ (o : Option FileName). is_left_there now o q (has_name between q)) was_is ∙ ap (λ (o : Option FileName). is_left_there o (name_of_node n (node_at nodes n)) q (has_name between q)) now_is)),
  l,
)
