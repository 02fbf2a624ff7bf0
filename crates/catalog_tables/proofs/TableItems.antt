-- The items of the tables, and that they are those of the records.
use Rattle.std.proofs.Common.{◌≡◌, ℕ, ◌+◌, ◌-◌, ◌≤◌, Bool, true, false, cond, eqb, leb, ltb, List, [], ◌∷◌, ◌++◌, map, Option, Some, None, refl, sym, ap, subst, ◌∙◌, arith, inl, inr, ◌⊎◌}
use Rattle.std.specs.Prelude.{◌&&◌, not}
use Rattle.std.specs.declared.cmp.Ordering.{Ordering}
use Rattle.std.specs.declared.cmp.Ordering.TheVariants.{Less, Equal, Greater}
use Rattle.std.specs.Ordering.{nat_cmp, is_eq, is_lt, ordering_then, ordering_reverse}
use Rattle.std.specs.Cmp.{IsTotalOrder}
use Rattle.std.proofs.lemmas.Cmp.{nat_cmp_total, then_total, on_total}
use Rattle.std.specs.BTreeMap.{is_at}
use Rattle.std.specs.Map.{lookup}
use Rattle.std.specs.List.{AllByRecursion}
use Rattle.std.specs.Option.{option_map, option_to_list}
use Rattle.std.proofs.lemmas.Bool.{and_parts, cond_both, eqb-true, eqb-false, ne_eqb, leb-true}
use Rattle.std.proofs.lemmas.Option.{none-some}
use Rattle.asm_formats.specs.Among.{IsAmong}
use Rattle.asm_formats.specs.Items.{Item, Key, item_key, key_rank, is_item, file_item, chunk_item, disk_item, rebalance_item, pending_item, templates_item, node_item, settings_item, marks_item}
use Rattle.asm_formats.specs.Values.{value, decoded_item}
use Rattle.asm_formats.specs.Status.{ascends_from}
use Rattle.asm_formats.proofs.Among.{among_map, among_filter, filter_among}
use Rattle.asm_formats.proofs.ItemReading.{decoded_again}
use Rattle.asm_base.specs.Records.{Ascend, DirectoryRecord, key_cmp, of_kinds}
use Rattle.asm_base.specs.Tables.{item_record}
use Rattle.asm_base.proofs.Exact.{some_is}
use Rattle.asm_base.specs.Chunks as chunk_order
use Rattle.asm_base.proofs.Chunks.{chunk_total, same_chunk}
use Rattle.file_directory.specs.Files as files
use Rattle.extent_map.specs.Extents as extents
use Rattle.alias_tree.specs.Nodes as nodes
use Rattle.template_directory.specs.Tables as templates
use Rattle.staleness_directory.specs.Marks as stale
use Rattle.operations_directory.specs.Operations as operations
use Rattle.disk_directory.specs.Disks as disks
use Rattle.catalog_tables.specs.Tables.{AreTables, HasRecords, Tables, item_at}
use Rattle.catalog_tables.specs.Items.{AreItemsIn, AreItemsOf}

-- ---- look-ups in a list in order

is_equal : (o : Ordering) → is_eq o ≡ true → o ≡ Equal
is_equal Less e = absurd cc
is_equal Equal e = refl
is_equal Greater e = absurd cc

less_is : (o : Ordering) → is_lt o ≡ true → o ≡ Less
less_is Less e = refl
less_is Equal e = absurd cc
less_is Greater e = absurd cc

-- keys that compare equal are one
abbrev pub AreExact : {K : Type 0} → (K → K → Ordering) → Type 0
AreExact {K} R = (x y : K) → R x y ≡ Equal → x ≡ y

pub numbers_exact : AreExact nat_cmp
numbers_exact x y e = grind (arith, e)

both_equal : (o p : Ordering) → ordering_then o p ≡ Equal → (o ≡ Equal) × (p ≡ Equal)
both_equal Less p e = absurd cc
both_equal Equal p e = (refl, e)
both_equal Greater p e = absurd cc

pub chunks_exact : AreExact chunk_order.chunk_cmp
chunks_exact = same_chunk

pub keys_exact : AreExact key_cmp
keys_exact x y e =
    let p = both_equal (nat_cmp x.kind y.kind) (ordering_then (nat_cmp x.a y.a) (nat_cmp x.b y.b)) e in
    let q = both_equal (nat_cmp x.a y.a) (nat_cmp x.b y.b) p.1 in
    let kind = numbers_exact x.kind y.kind p.0 in
    let a = numbers_exact x.a y.a q.0 in
    let b = numbers_exact x.b y.b q.1 in
    λ i. record { kind = kind i; a = a i; b = b i }

itself : (o : Ordering) → o ≡ ordering_reverse o → o ≡ Equal
itself Less e = absurd cc
itself Equal e = refl
itself Greater e = absurd cc

self : {K : Type 0} (R : K → K → Ordering) → IsTotalOrder R → (k : K) → R k k ≡ Equal
self R total k = itself (R k k) (total.antisymm k k)

module _ {K T : Type 0} (R : K → K → Ordering) (total : IsTotalOrder R) (exact : AreExact R) where
  -- what is found is among the entries
  pub found_is : (k : K) (es : List (K × T)) (v : T) → lookup (is_at (R k)) es ≡ Some v → IsAmong es (k, v)
  found_is k [] v e = absurd (none-some v e)
  found_is k (x ∷ es) v e = by (is_at (R k) x.0) refl e (found_is k es v) where
    by : (b : Bool) → is_at (R k) x.0 ≡ b → cond b (Some x.1) (lookup (is_at (R k)) es) ≡ Some v → (lookup (is_at (R k)) es ≡ Some v → IsAmong es (k, v)) → IsAmong (x ∷ es) (k, v)
    by true here e rest =
        let first = exact k x.0 (is_equal (R k x.0) here) in
        let second = some_is x.1 v e in
        inl (λ i. (first i, sym second i))
    by false other e rest = inr (rest e)

  pub tail_up : (y : K × T) (es : List (K × T)) → Ascend (λ a b. is_lt (R a b)) (y ∷ es) → Ascend (λ a b. is_lt (R a b)) es
  tail_up y [] up = tt
  tail_up y (z ∷ es) up = up.1

  pub below : (y : K × T) (es : List (K × T)) (x : K × T) → Ascend (λ a b. is_lt (R a b)) (y ∷ es) → IsAmong es x → R y.0 x.0 ≡ Less
  below y [] x up h = absurd h
  below y (z ∷ es) x up (inl e) = subst (λ (w : K × T). R y.0 w.0 ≡ Less) (sym e) (less_is (R y.0 z.0) up.0)
  below y (z ∷ es) x up (inr h) = total.trans y.0 z.0 x.0 (less_is (R y.0 z.0) up.0) (below z es x up.1 h)

  -- and what is among them is found
  pub among_found : (es : List (K × T)) (x : K × T) → Ascend (λ a b. is_lt (R a b)) es → IsAmong es x → lookup (is_at (R x.0)) es ≡ Some x.1
  among_found [] x up h = absurd h
  among_found (y ∷ es) x up (inl e) = subst (λ (z : K × T). lookup (is_at (R z.0)) (y ∷ es) ≡ Some z.1) (sym e) (rw (self R total y.0) refl)
  among_found (y ∷ es) x up (inr h) =
      let greater : R x.0 y.0 ≡ Greater = total.antisymm x.0 y.0 ∙ ap ordering_reverse (below y es x up h) in
      rw greater (among_found es x (tail_up y es up) h)

  -- the first of its key is found
  pub some_found : (es : List (K × T)) (k : K) (v : T) → IsAmong es (k, v) → (w : T) × (lookup (is_at (R k)) es ≡ Some w)
  some_found [] k v h = absurd h
  some_found (y ∷ es) k v (inl e) = (y.1, subst (λ (j : K). lookup (is_at (R j)) (y ∷ es) ≡ Some y.1) (sym (ap (λ (z : K × T). z.0) e)) (rw (self R total y.0) refl))
  some_found (y ∷ es) k v (inr h) = by (is_at (R k) y.0) (some_found es k v h) where
    by : (b : Bool) → (w : T) × (lookup (is_at (R k)) es ≡ Some w) → (w : T) × (cond b (Some y.1) (lookup (is_at (R k)) es) ≡ Some w)
    by true rest = (y.1, refl)
    by false rest = rest

pub key_total : IsTotalOrder key_cmp
key_total = then_total (on_total (λ (k : Key). k.kind) nat_cmp_total) (then_total (on_total (λ (k : Key). k.a) nat_cmp_total) (on_total (λ (k : Key). k.b) nat_cmp_total))

-- ---- lists

pub map_among : {A B : Type 0} (f : A → B) (xs : List A) (y : B) → IsAmong (map f xs) y → (x : A) × IsAmong xs x × (y ≡ f x)
map_among f [] y h = absurd h
map_among f (x ∷ xs) y (inl e) = (x, inl refl, e)
map_among f (x ∷ xs) y (inr h) = let m = map_among f xs y h in (m.0, inr m.1, m.2)

pub each_of : {A : Type 0} (P : A → Type 0) (xs : List A) (x : A) → AllByRecursion P xs → IsAmong xs x → P x
each_of P [] x all h = absurd h
each_of P (y ∷ xs) x all (inl e) = subst P (sym e) all.0
each_of P (y ∷ xs) x all (inr h) = each_of P xs x all.1 h

pub left_among : {A : Type 0} (xs ys : List A) (x : A) → IsAmong xs x → IsAmong (xs ++ ys) x
left_among [] ys x h = absurd h
left_among (z ∷ xs) ys x (inl e) = inl e
left_among (z ∷ xs) ys x (inr h) = inr (left_among xs ys x h)

pub right_among : {A : Type 0} (xs ys : List A) (x : A) → IsAmong ys x → IsAmong (xs ++ ys) x
right_among [] ys x h = h
right_among (z ∷ xs) ys x h = inr (right_among xs ys x h)

pub append_among : {A : Type 0} (xs ys : List A) (x : A) → IsAmong (xs ++ ys) x → IsAmong xs x ⊎ IsAmong ys x
append_among [] ys x h = inr h
append_among (z ∷ xs) ys x (inl e) = inl (inl e)
append_among (z ∷ xs) ys x (inr h) = elim (append_among xs ys x h) [ inl l ↦ inl (inr l) | inr r ↦ inr r ]

option_among : {A B : Type 0} (f : A → B) (o : Option A) (y : B) → IsAmong (option_to_list (option_map f o)) y → (x : A) × (o ≡ Some x) × (y ≡ f x)
option_among f None y h = absurd h
option_among f (Some x) y (inl e) = (x, refl, e)
option_among f (Some x) y (inr h) = absurd h

some_among : {A B : Type 0} (f : A → B) (o : Option A) (x : A) → o ≡ Some x → IsAmong (option_to_list (option_map f o)) (f x)
some_among f o x e = subst (λ (p : Option _). IsAmong (option_to_list (option_map f p)) (f x)) (sym e) (inl refl)

pub from_map : {A B : Type 0} (f : A → B) (o : Option A) (y : B) → option_map f o ≡ Some y → (x : A) × (o ≡ Some x) × (f x ≡ y)
from_map f None y e = absurd (none-some y e)
from_map f (Some x) y e = (x, refl, some_is (f x) y e)

-- ---- the items of the tables, table by table

pub data IsOf (t : Tables) (i : Item) : Type 0 where
  a_file : (x : files.NumberedFile) → IsAmong t.files x → i ≡ files.item_of_file_head x → IsOf t i
  a_chunk : (x : extents.Chunked) → IsAmong t.extents x → i ≡ extents.item_of_chunk x → IsOf t i
  a_disk : (x : disks.Disk) → IsAmong t.disks x → i ≡ disks.item_of_disk x → IsOf t i
  an_operation : IsAmong (operations.items_of t.operations) i → IsOf t i
  the_templates : i ≡ templates_item t.templates.templates → IsOf t i
  a_node : (x : nodes.Numbered) → IsAmong t.nodes x → i ≡ nodes.item_of_node x → IsOf t i
  the_settings : i ≡ settings_item t.templates.settings → IsOf t i
  marks : (x : stale.Marked) → IsAmong t.stale x → i ≡ stale.item_of_marks x → IsOf t i

-- what the tables say at a key is an item of theirs with this key
abbrev Said : Tables → Key → Item → Type 0
Said t k i = IsOf t i × (item_key i ≡ k)

at_key : (k : Key) (kind a b : ℕ) → kind ≡ k.kind → a ≡ k.a → b ≡ k.b → record { kind = kind; a = a; b = b } ≡ k
at_key k kind a b e f g = λ i. record { kind = e i; a = f i; b = g i }

module _ (t : Tables) (k : Key) (i : Item) where
  said_file : k.kind ≡ 1 → k.b ≡ 0 → option_map (file_item k.a) (files.head_at t.files k.a) ≡ Some i → Said t k i
  said_file one zero e =
      let m = from_map (file_item k.a) (files.head_at t.files k.a) i e in
      (a_file (k.a, m.0) (found_is nat_cmp nat_cmp_total numbers_exact k.a t.files m.0 m.1) (sym m.2), ap item_key (sym m.2) ∙ at_key k 1 k.a 0 (sym one) refl (sym zero))

  said_chunk : k.kind ≡ 1 → (k.b ≡ 0 → ⊥) → option_map (chunk_item k.a (k.b - 1)) (extents.chunk_at t.extents (k.a, k.b - 1)) ≡ Some i → Said t k i
  said_chunk one some e =
      let m = from_map (chunk_item k.a (k.b - 1)) (extents.chunk_at t.extents (k.a, k.b - 1)) i e in
      (a_chunk ((k.a, k.b - 1), m.0) (found_is chunk_order.chunk_cmp chunk_total chunks_exact (k.a, k.b - 1) t.extents m.0 m.1) (sym m.2), ap item_key (sym m.2) ∙ at_key k 1 k.a (k.b - 1 + 1) (sym one) refl (omega (arith, some)))

  said_disk : k.kind ≡ 2 → k.b ≡ 0 → option_map (disk_item k.a) (disks.info_at t.disks k.a) ≡ Some i → Said t k i
  said_disk two zero e =
      let m = from_map (disk_item k.a) (disks.info_at t.disks k.a) i e in
      (a_disk (k.a, m.0) (found_is nat_cmp nat_cmp_total numbers_exact k.a t.disks m.0 m.1) (sym m.2), ap item_key (sym m.2) ∙ at_key k 2 k.a 0 (sym two) refl (sym zero))

  said_rebalance : k.kind ≡ 4 → k.b ≡ 0 → k.a ≡ 0 → option_map rebalance_item t.operations.rebalance ≡ Some i → Said t k i
  said_rebalance four zero first e =
      let m = from_map rebalance_item t.operations.rebalance i e in
      let ops = operations.items_of t.operations in
      let there : IsAmong ops (rebalance_item m.0) = left_among (option_to_list (option_map rebalance_item t.operations.rebalance)) (option_to_list (option_map pending_item t.operations.pending)) (rebalance_item m.0) (some_among rebalance_item t.operations.rebalance m.0 m.1) in
      (an_operation (subst (λ (j : Item). IsAmong (operations.items_of t.operations) j) m.2 there), ap item_key (sym m.2) ∙ at_key k 4 0 0 (sym four) (sym first) (sym zero))

  said_pending : k.kind ≡ 4 → k.b ≡ 0 → k.a ≡ 1 → option_map pending_item t.operations.pending ≡ Some i → Said t k i
  said_pending four zero second e =
      let m = from_map pending_item t.operations.pending i e in
      let there : IsAmong (operations.items_of t.operations) (pending_item m.0) = right_among (option_to_list (option_map rebalance_item t.operations.rebalance)) (option_to_list (option_map pending_item t.operations.pending)) (pending_item m.0) (some_among pending_item t.operations.pending m.0 m.1) in
      (an_operation (subst (λ (j : Item). IsAmong (operations.items_of t.operations) j) m.2 there), ap item_key (sym m.2) ∙ at_key k 4 1 0 (sym four) (sym second) (sym zero))

  said_templates : k.kind ≡ 5 → (eqb k.a 0 && eqb k.b 0) ≡ true → Some (templates_item t.templates.templates) ≡ Some i → Said t k i
  said_templates five both e =
      let p = and_parts (eqb k.a 0) (eqb k.b 0) both in
      let is = some_is (templates_item t.templates.templates) i e in
      (the_templates (sym is), ap item_key (sym is) ∙ at_key k 5 0 0 (sym five) (sym (eqb-true k.a 0 p.0)) (sym (eqb-true k.b 0 p.1)))

  said_node : k.kind ≡ 6 → k.b ≡ 0 → option_map (node_item k.a) (nodes.node_at t.nodes k.a) ≡ Some i → Said t k i
  said_node six zero e =
      let m = from_map (node_item k.a) (nodes.node_at t.nodes k.a) i e in
      (a_node (k.a, m.0) (found_is nat_cmp nat_cmp_total numbers_exact k.a t.nodes m.0 m.1) (sym m.2), ap item_key (sym m.2) ∙ at_key k 6 k.a 0 (sym six) refl (sym zero))

  said_settings : k.kind ≡ 9 → (eqb k.a 0 && eqb k.b 0) ≡ true → Some (settings_item t.templates.settings) ≡ Some i → Said t k i
  said_settings nine both e =
      let p = and_parts (eqb k.a 0) (eqb k.b 0) both in
      let is = some_is (settings_item t.templates.settings) i e in
      (the_settings (sym is), ap item_key (sym is) ∙ at_key k 9 0 0 (sym nine) (sym (eqb-true k.a 0 p.0)) (sym (eqb-true k.b 0 p.1)))

  said_marks : k.kind ≡ 12 → option_map (marks_item k.a k.b) (stale.marks_at t.stale (k.a, k.b)) ≡ Some i → Said t k i
  said_marks twelve e =
      let m = from_map (marks_item k.a k.b) (stale.marks_at t.stale (k.a, k.b)) i e in
      (marks ((k.a, k.b), m.0) (found_is chunk_order.chunk_cmp chunk_total chunks_exact (k.a, k.b) t.stale m.0 m.1) (sym m.2), ap item_key (sym m.2) ∙ at_key k 12 k.a k.b (sym twelve) refl refl)

  -- a choice by a number
  choose : (n m : ℕ) (x y : Option Item) → (n ≡ m → x ≡ Some i → Said t k i) → ((n ≡ m → ⊥) → y ≡ Some i → Said t k i) → cond (eqb n m) x y ≡ Some i → Said t k i
  choose n m x y one other = cond_both (eqb n m) x y (λ (o : Option Item). o ≡ Some i → Said t k i) (λ e. one (eqb-true n m e)) (λ e. other (eqb-false n m e))

  nothing : None ≡ Some i → Said t k i
  nothing e = absurd (none-some i e)

  pub said : item_at t k ≡ Some i → IsOf t i × (item_key i ≡ k)
  unfolding item_at
  said = choose k.kind 1 _ _ (λ one. choose k.b 0 _ _ (said_file one) (said_chunk one))
      (λ n1. choose k.kind 2 _ _ (λ two. choose k.b 0 _ _ (said_disk two) (λ n. nothing))
      (λ n2. choose k.kind 4 _ _ (λ four. choose k.b 0 _ _ (λ zero. choose k.a 0 _ _ (said_rebalance four zero) (λ n. choose k.a 1 _ _ (said_pending four zero) (λ n. nothing))) (λ n. nothing))
      (λ n4. choose k.kind 5 _ _ (λ five. cond_both (eqb k.a 0 && eqb k.b 0) (Some (templates_item t.templates.templates)) None (λ (o : Option Item). o ≡ Some i → Said t k i) (said_templates five) (λ n. nothing))
      (λ n5. choose k.kind 6 _ _ (λ six. choose k.b 0 _ _ (said_node six) (λ n. nothing))
      (λ n6. choose k.kind 9 _ _ (λ nine. cond_both (eqb k.a 0 && eqb k.b 0) (Some (settings_item t.templates.settings)) None (λ (o : Option Item). o ≡ Some i → Said t k i) (said_settings nine) (λ n. nothing))
      (λ n9. choose k.kind 12 _ _ said_marks (λ n. nothing)))))))

-- an item of the tables is what they say at its key
operation_says : (t : Tables) (i : Item) → IsAmong (operations.items_of t.operations) i → item_at t (item_key i) ≡ Some i
unfolding item_at
operation_says t i h = elim (append_among (option_to_list (option_map rebalance_item t.operations.rebalance)) (option_to_list (option_map pending_item t.operations.pending)) i h) [
  | inl l ↦ let o = option_among rebalance_item t.operations.rebalance i l in subst (λ (j : Item). item_at t (item_key j) ≡ Some j) (sym o.2) (ap (option_map rebalance_item) o.1)
  | inr r ↦ let o = option_among pending_item t.operations.pending i r in subst (λ (j : Item). item_at t (item_key j) ≡ Some j) (sym o.2) (ap (option_map pending_item) o.1)
]

chunk_says : (t : Tables) (x : extents.Chunked) → AreTables t → IsAmong t.extents x → item_at t (item_key (extents.item_of_chunk x)) ≡ Some (extents.item_of_chunk x)
unfolding item_at
chunk_says t x a h =
    let some : eqb (x.0.1 + 1) 0 ≡ false = ne_eqb (x.0.1 + 1) 0 (λ e. omega (arith, e)) in
    let less : x.0.1 + 1 - 1 ≡ x.0.1 = omega arith in
    rw (some, less) (ap (option_map (chunk_item x.0.0 x.0.1)) (among_found chunk_order.chunk_cmp chunk_total chunks_exact t.extents x a.extents.0.0 h))

pub says : (t : Tables) (i : Item) → AreTables t → IsOf t i → item_at t (item_key i) ≡ Some i
unfolding item_at
says t i a (a_file x h e) = subst (λ (j : Item). item_at t (item_key j) ≡ Some j) (sym e) (ap (option_map (file_item x.0)) (among_found nat_cmp nat_cmp_total numbers_exact t.files x a.files.0 h))
says t i a (a_chunk x h e) = subst (λ (j : Item). item_at t (item_key j) ≡ Some j) (sym e) (chunk_says t x a h)
says t i a (a_disk x h e) = subst (λ (j : Item). item_at t (item_key j) ≡ Some j) (sym e) (ap (option_map (disk_item x.0)) (among_found nat_cmp nat_cmp_total numbers_exact t.disks x a.disks.0 h))
says t i a (an_operation h) = operation_says t i h
says t i a (the_templates e) = subst (λ (j : Item). item_at t (item_key j) ≡ Some j) (sym e) refl
says t i a (a_node x h e) = subst (λ (j : Item). item_at t (item_key j) ≡ Some j) (sym e) (ap (option_map (node_item x.0)) (among_found nat_cmp nat_cmp_total numbers_exact t.nodes x a.nodes.items.0 h))
says t i a (the_settings e) = subst (λ (j : Item). item_at t (item_key j) ≡ Some j) (sym e) refl
says t i a (marks x h e) = subst (λ (j : Item). item_at t (item_key j) ≡ Some j) (sym e) (ap (option_map (marks_item x.0.0 x.0.1)) (among_found chunk_order.chunk_cmp chunk_total chunks_exact t.stale x a.stale.0 h))

-- it is one of the formats
pub allowed : (t : Tables) (i : Item) → AreTables t → IsOf t i → is_item i ≡ true
allowed t i a (a_file x h e) = ap is_item e ∙ each_of (λ y. is_item (files.item_of_file_head y) ≡ true) t.files x a.files.1 h
allowed t i a (a_chunk x h e) = ap is_item e ∙ each_of (λ y. is_item (extents.item_of_chunk y) ≡ true) t.extents x a.extents.0.1 h
allowed t i a (a_disk x h e) = ap is_item e ∙ each_of (λ y. is_item (disks.item_of_disk y) ≡ true) t.disks x a.disks.1 h
allowed t i a (an_operation h) = each_of (λ j. is_item j ≡ true) (operations.items_of t.operations) i a.operations h
allowed t i a (the_templates e) = ap is_item e ∙ a.templates.templates
allowed t i a (a_node x h e) = ap is_item e ∙ each_of (λ y. is_item (nodes.item_of_node y) ≡ true) t.nodes x a.nodes.items.1 h
allowed t i a (the_settings e) = ap is_item e ∙ a.templates.settings
allowed t i a (marks x h e) = ap is_item e ∙ each_of (λ y. is_item (stale.item_of_marks y) ≡ true) t.stale x a.stale.1 h

-- ---- by the records

-- the record of an entry is among the records
has_record : {X : Type 0} (item_of : X → Item) (p : Key → Bool) (content : List DirectoryRecord) (xs : List X) (x : X) (i : Item) → of_kinds p content ≡ map (λ y. item_record (item_of y)) xs → IsAmong xs x → i ≡ item_of x → IsAmong content (item_record i)
has_record item_of p content xs x i same h e =
    let there : IsAmong (map (λ y. item_record (item_of y)) xs) (item_record i) = subst (λ (j : Item). IsAmong (map (λ y. item_record (item_of y)) xs) (item_record j)) (sym e) (among_map (λ y. item_record (item_of y)) xs x h) in
    among_filter (λ (e : DirectoryRecord). p e.0) content (item_record i) (subst (λ (es : List DirectoryRecord). IsAmong es (item_record i)) (sym same) there)

pub recorded : (content : List DirectoryRecord) (t : Tables) (i : Item) → HasRecords content t → IsOf t i → IsAmong content (item_record i)
recorded content t i has (a_file x h e) = has_record files.item_of_file_head files.is_key_of_file content t.files x i has.files h e
recorded content t i has (a_chunk x h e) = has_record extents.item_of_chunk extents.is_chunk content t.extents x i has.extents h e
recorded content t i has (a_disk x h e) = has_record disks.item_of_disk disks.is_key_of_disk content t.disks x i has.disks h e
recorded content t i has (an_operation h) = has_record (λ (j : Item). j) operations.is_operation content (operations.items_of t.operations) i i has.operations h refl
recorded content t i has (the_templates e) = has_record (λ (j : Item). j) templates.is_key_of_templates content (templates_item t.templates.templates ∷ settings_item t.templates.settings ∷ []) i i has.templates (inl e) refl
recorded content t i has (a_node x h e) = has_record nodes.item_of_node nodes.is_key_of_node content t.nodes x i has.nodes h e
recorded content t i has (the_settings e) = has_record (λ (j : Item). j) templates.is_key_of_templates content (templates_item t.templates.templates ∷ settings_item t.templates.settings ∷ []) i i has.templates (inr (inl e)) refl
recorded content t i has (marks x h e) = has_record stale.item_of_marks stale.is_marks content t.stale x i has.stale h e

-- items of one record are one
same_record : (i j : Item) → is_item i ≡ true → is_item j ≡ true → item_record i ≡ item_record j → i ≡ j
same_record i j a b e = some_is i j (sym (decoded_again i a) ∙ ap (λ (r : DirectoryRecord). decoded_item r.0 r.1) e ∙ decoded_again j b)

-- an item of the kinds of a table whose record is there is one of its entries
of_entry : {X : Type 0} (item_of : X → Item) (p : Key → Bool) (content : List DirectoryRecord) (xs : List X) (i : Item) → of_kinds p content ≡ map (λ y. item_record (item_of y)) xs → AllByRecursion (λ x. is_item (item_of x) ≡ true) xs
    → is_item i ≡ true → p (item_key i) ≡ true → IsAmong content (item_record i) → (x : X) × IsAmong xs x × (i ≡ item_of x)
of_entry item_of p content xs i same all ok mine h =
    let kept : IsAmong (of_kinds p content) (item_record i) = filter_among (λ (e : DirectoryRecord). p e.0) content (item_record i) mine h in
    let m = map_among (λ y. item_record (item_of y)) xs (item_record i) (subst (λ (es : List DirectoryRecord). IsAmong es (item_record i)) same kept) in
    (m.0, m.1, same_record i (item_of m.0) ok (each_of (λ x. is_item (item_of x) ≡ true) xs m.0 all m.1) m.2)

pub of_two : (t : Tables) (i : Item) → IsAmong (templates_item t.templates.templates ∷ settings_item t.templates.settings ∷ []) i → IsOf t i
of_two t i (inl e) = the_templates e
of_two t i (inr (inl e)) = the_settings e
of_two t i (inr (inr h)) = absurd h

disk_number : (d : ℕ) (info : _) → is_item (disk_item d info) ≡ true → ltb d 64 ≡ true
unfolding is_item
disk_number d info ok = (and_parts (ltb d 64) _ ok).0

pub is_of : (content : List DirectoryRecord) (t : Tables) (i : Item) → AreTables t → HasRecords content t → is_item i ≡ true → IsAmong content (item_record i) → IsOf t i
is_of content t (file_item f head) a has ok h =
    let m = of_entry files.item_of_file_head files.is_key_of_file content t.files (file_item f head) has.files a.files.1 ok refl h in a_file m.0 m.1 m.2
is_of content t (chunk_item f c homes) a has ok h =
    let m = of_entry extents.item_of_chunk extents.is_chunk content t.extents (chunk_item f c homes) has.extents a.extents.0.1 ok (ap not (ne_eqb (c + 1) 0 (λ e. omega (arith, e)))) h in a_chunk m.0 m.1 m.2
is_of content t (disk_item d info) a has ok h =
    let m = of_entry disks.item_of_disk disks.is_key_of_disk content t.disks (disk_item d info) has.disks a.disks.1 ok (disk_number d info ok) h in a_disk m.0 m.1 m.2
is_of content t (rebalance_item power) a has ok h =
    let m = of_entry (λ (j : Item). j) operations.is_operation content (operations.items_of t.operations) (rebalance_item power) has.operations a.operations ok refl h in an_operation (subst (λ (j : Item). IsAmong (operations.items_of t.operations) j) (sym m.2) m.1)
is_of content t (pending_item op) a has ok h =
    let m = of_entry (λ (j : Item). j) operations.is_operation content (operations.items_of t.operations) (pending_item op) has.operations a.operations ok refl h in an_operation (subst (λ (j : Item). IsAmong (operations.items_of t.operations) j) (sym m.2) m.1)
is_of content t (templates_item ts) a has ok h =
    let m = of_entry (λ (j : Item). j) templates.is_key_of_templates content (templates_item t.templates.templates ∷ settings_item t.templates.settings ∷ []) (templates_item ts) has.templates (a.templates.templates, (a.templates.settings, tt)) ok refl h in
    of_two t (templates_item ts) (subst (λ (j : Item). IsAmong (templates_item t.templates.templates ∷ settings_item t.templates.settings ∷ []) j) (sym m.2) m.1)
is_of content t (node_item n node) a has ok h =
    let m = of_entry nodes.item_of_node nodes.is_key_of_node content t.nodes (node_item n node) has.nodes a.nodes.items.1 ok refl h in a_node m.0 m.1 m.2
is_of content t (settings_item s) a has ok h =
    let m = of_entry (λ (j : Item). j) templates.is_key_of_templates content (templates_item t.templates.templates ∷ settings_item t.templates.settings ∷ []) (settings_item s) has.templates (a.templates.templates, (a.templates.settings, tt)) ok refl h in
    of_two t (settings_item s) (subst (λ (j : Item). IsAmong (templates_item t.templates.templates ∷ settings_item t.templates.settings ∷ []) j) (sym m.2) m.1)
is_of content t (marks_item f c ms) a has ok h =
    let m = of_entry stale.item_of_marks stale.is_marks content t.stale (marks_item f c ms) has.stale a.stale.1 ok refl h in marks m.0 m.1 m.2

-- ---- items in order

abbrev pub rank : Item → ℕ
rank i = key_rank (item_key i)

abbrev pub ranks : List Item → List ℕ
ranks items = map rank items

pub above_least : (xs : List Item) (least : ℕ) → ascends_from least (ranks xs) ≡ true → (i : Item) → IsAmong xs i → least ≤ rank i
above_least [] least ok i h = absurd h
above_least (x ∷ xs) least ok i (inl e) = leb-true least (rank i) (ap (λ (y : Item). leb least (rank y)) e ∙ (and_parts (leb least (rank x)) (ascends_from (rank x + 1) (ranks xs)) ok).0)
above_least (x ∷ xs) least ok i (inr h) =
    let p = and_parts (leb least (rank x)) (ascends_from (rank x + 1) (ranks xs)) ok in
    omega (arith, above_least xs (rank x + 1) p.1 i h, leb-true least (rank x) p.0)

-- items of one key are one
pub one_of_key : (xs : List Item) (least : ℕ) → ascends_from least (ranks xs) ≡ true → (i j : Item) → IsAmong xs i → IsAmong xs j → item_key i ≡ item_key j → i ≡ j
one_of_key [] least ok i j h g e = absurd h
one_of_key (x ∷ xs) least ok i j (inl p) (inl q) e = p ∙ sym q
one_of_key (x ∷ xs) least ok i j (inl p) (inr g) e =
    let rest = (and_parts (leb least (rank x)) (ascends_from (rank x + 1) (ranks xs)) ok).1 in
    absurd (omega (arith, above_least xs (rank x + 1) rest j g, ap rank p, ap key_rank e))
one_of_key (x ∷ xs) least ok i j (inr h) (inl q) e =
    let rest = (and_parts (leb least (rank x)) (ascends_from (rank x + 1) (ranks xs)) ok).1 in
    absurd (omega (arith, above_least xs (rank x + 1) rest i h, ap rank q, ap key_rank e))
one_of_key (x ∷ xs) least ok i j (inr h) (inr g) e =
    let rest = (and_parts (leb least (rank x)) (ascends_from (rank x + 1) (ranks xs)) ok).1 in
    one_of_key xs (rank x + 1) rest i j h g e

-- ---- the items of the records are those of the tables

pub items_of_records : (content : List DirectoryRecord) (t : Tables) (items : List Item) → AreTables t → HasRecords content t → AreItemsIn content items → AreItemsOf t items
items_of_records content t items a has is = record { in_order = is.in_order; from_table = from_table; to_table = to_table } where
  -- an item is one of the formats, and its record is there
  right : (i : Item) → IsAmong items i → is_item i ≡ true
  right i h =
      let r = is.from_record (item_key i) (value i) (is.to_record i h) in
      ap is_item (one_of_key items 0 is.in_order i r.0 h r.1 (sym r.2.key)) ∙ r.2.is

  to_table : (i : Item) → IsAmong items i → item_at t (item_key i) ≡ Some i
  to_table i h =
      let there : IsAmong content (item_record i) = found_is key_cmp key_total keys_exact (item_key i) content (value i) (is.to_record i h) in
      says t i a (is_of content t i a has (right i h) there)

  from_table : (k : Key) (i : Item) → item_at t k ≡ Some i → IsAmong items i
  from_table k i e =
      let s = said t k i e in
      let there = some_found key_cmp key_total keys_exact content (item_key i) (value i) (recorded content t i has s.0) in
      let r = is.from_record (item_key i) there.0 there.1 in
      let same : i ≡ r.0 = some_is i r.0 (sym e ∙ ap (item_at t) (sym s.1 ∙ sym r.2.key) ∙ to_table r.0 r.1) in
      subst (λ (j : Item). IsAmong items j) (sym same) r.1
