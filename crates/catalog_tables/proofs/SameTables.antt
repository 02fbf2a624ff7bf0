-- Tables that give the same value at each key are the same.
use Rattle.std.proofs.Common.{◌≡◌, ℕ, ◌+◌, ◌-◌, Ordering, Bool, true, false, cond, eqb, List, [], ◌∷◌, ◌++◌, Option, Some, None, refl, sym, ap, subst, ◌∙◌, arith, inl, inr, ◌⊎◌}
use Rattle.std.specs.Prelude.{◌&&◌, IsTrue}
use Rattle.std.specs.List.{AllByRecursion}
use Rattle.std.specs.Option.{option_map, option_to_list}
use Rattle.std.specs.Ordering.{is_lt, nat_cmp}
use Rattle.std.specs.BTreeMap.{is_at}
use Rattle.std.specs.Cmp.{Equal-is, IsTotalOrder}
use Rattle.std.specs.FinMap.{nat_cmp-IsAntisymmetric}
use Rattle.std.specs.FinMap.Entries.{below_all, find, is_sorted, same_entries}
use Rattle.std.specs.Map.{lookup}
use Rattle.std.specs.declared.cmp.Ordering.TheVariants.{Less, Equal, Greater}
use Rattle.std.proofs.Math.Dec.{T}
use Rattle.std.proofs.lemmas.Bool.{ne_eqb}
use Rattle.std.proofs.lemmas.Cmp.{nat_cmp_total}
use Rattle.asm_formats.specs.Items.{Item, Key, Homes, Pending as PendingOperation, chunk_item, disk_item, file_item, is_item, item_key, marks_item, node_item, pending_item, rebalance_item, settings_item, templates_item}
use Rattle.asm_formats.specs.Values.{decoded_item, value}
use Rattle.asm_formats.proofs.Bodies.{item_codec}
use Rattle.asm_base.specs.Records.{Ascend}
use Rattle.asm_base.proofs.Exact.{some_is}
use Rattle.asm_base.specs.Chunks as chunk_order
use Rattle.asm_base.proofs.Chunks.{chunk_total, same_chunk}
use Rattle.extent_map.specs.Changing as extents_changing
use Rattle.operations_directory.specs.Operations.{IsOperationTable as AreOperations, Operations}
use Rattle.catalog_tables.specs.Changing.{AreItemTables}
use Rattle.catalog_tables.specs.Tables.{Tables, item_at, records_of}

either : (b : Bool) → (b ≡ true) ⊎ (b ≡ false)
either true = inl refl
either false = inr refl

-- ---- lists in order

less_is : (r : Ordering) → is_lt r ≡ true → r ≡ Less
less_is Less e = refl
less_is Equal e = absurd cc
less_is Greater e = absurd cc

holds : (b : Bool) → b ≡ true → T b
holds true e = tt
holds false e = absurd cc

module _ {K X : Type 0} (R : K → K → Ordering) (order : IsTotalOrder R) where
  abbrev Up : List (K × X) → Type 0
  Up es = Ascend (λ a b. is_lt (R a b)) es

  below_rest : (x : K) (y : K × X) (es : List (K × X)) → is_lt (R x y.0) ≡ true → Up (y ∷ es) → below_all R x (y ∷ es) ≡ true
  below_rest x y [] lt up = rw lt refl
  below_rest x y (z ∷ es) lt up =
      let next : is_lt (R x z.0) ≡ true = ap is_lt (order.trans x y.0 z.0 (less_is (R x y.0) lt) (less_is (R y.0 z.0) up.0)) in
      let rest : below_all R x (z ∷ es) ≡ true = below_rest x z es next up.1 in
      rw lt rest

  sorted : (es : List (K × X)) → Up es → is_sorted R es ≡ true
  sorted [] up = refl
  sorted (x ∷ []) up = refl
  sorted (x ∷ y ∷ es) up =
      let first : below_all R x.0 (y ∷ es) ≡ true = below_rest x.0 y es up.0 up.1 in
      let rest : is_sorted R (y ∷ es) ≡ true = sorted (y ∷ es) up.1 in
      both (below_all R x.0 (y ∷ es)) (is_sorted R (y ∷ es)) first rest
    where
      both : (a b : Bool) → a ≡ true → b ≡ true → (a && b) ≡ true
      both a b p q = rw (p, q) refl

  found : (q : K) (es : List (K × X)) → find R q es ≡ lookup (is_at (R q)) es
  found q [] = refl
  found q (e ∷ es) = ap (cond (is_at (R q) e.0) (Some e.1)) (found q es)

  pub same_lookups : ((x y : K) → R x y ≡ Equal → x ≡ y) → (es fs : List (K × X)) → Up es → Up fs → ((q : K) → lookup (is_at (R q)) es ≡ lookup (is_at (R q)) fs) → es ≡ fs
  same_lookups exact es fs up too same =
      same_entries R order exact es fs (holds (is_sorted R es) (sorted es up)) (holds (is_sorted R fs) (sorted fs too)) (λ q. found q es ∙ (same q ∙ sym (found q fs)))

-- ---- items

same_item : (i j : Item) → is_item i ≡ true → is_item j ≡ true → item_key i ≡ item_key j → value i ≡ value j → i ≡ j
same_item i j ok too at is =
    some_is i j (sym (item_codec.again i ok) ∙ (ap (λ (k : Key). decoded_item k (value i)) at ∙ (ap (λ (v : List ℕ). decoded_item (item_key j) v) is ∙ item_codec.again j too)))

module _ {K X : Type 0} (R : K → K → Ordering) (order : IsTotalOrder R) (exact : (x y : K) → R x y ≡ Equal → x ≡ y) (item : K → X → Item)
    (keys : (k : K) (v w : X) → item_key (item k v) ≡ item_key (item k w)) (one : (k : K) (v w : X) → item k v ≡ item k w → v ≡ w) where
  abbrev Items : List (K × X) → Type 0
  Items es = AllByRecursion (λ (x : K × X). IsTrue (is_item (item x.0 x.1))) es

  pub looked : (es : List (K × X)) → Items es → (q : K) (v : X) → lookup (is_at (R q)) es ≡ Some v → is_item (item q v) ≡ true
  looked [] all q v e = absurd cc
  looked (x ∷ es) all q v e = elim (either (is_at (R q) x.0)) [
    | inl hit ↦
        let same : q ≡ x.0 = exact q x.0 ((Equal-is (R q x.0)).0 hit) in
        let said : x.1 ≡ v = some_is x.1 v (rw hit at e) in
        subst (λ (k : K). is_item (item k v) ≡ true) (sym same) (subst (λ (w : X). is_item (item x.0 w) ≡ true) said all.0)
    | inr miss ↦ looked es all.1 q v (rw miss at e)
  ]

  pub same_found : (q : K) (o p : Option X) → ((v : X) → o ≡ Some v → is_item (item q v) ≡ true) → ((v : X) → p ≡ Some v → is_item (item q v) ≡ true)
      → option_map value (option_map (item q) o) ≡ option_map value (option_map (item q) p) → o ≡ p
  same_found q None None f g e = refl
  same_found q None (Some w) f g e = absurd cc
  same_found q (Some v) None f g e = absurd cc
  same_found q (Some v) (Some w) f g e =
      ap (λ (x : X). Some x) (one q v w (same_item (item q v) (item q w) (f v refl) (g w refl) (keys q v w) (some_is (value (item q v)) (value (item q w)) e)))

  same_values : (es fs : List (K × X)) → Ascend (λ a b. is_lt (R a b)) es → Items es → Ascend (λ a b. is_lt (R a b)) fs → Items fs
      → ((q : K) → option_map value (option_map (item q) (lookup (is_at (R q)) es)) ≡ option_map value (option_map (item q) (lookup (is_at (R q)) fs))) → es ≡ fs
  same_values es fs up all too others same =
      same_lookups R order exact es fs up too (λ q. same_found q (lookup (is_at (R q)) es) (lookup (is_at (R q)) fs) (looked es all q) (looked fs others q) (same q))

-- ---- the tables

abbrev Alike : Tables → Tables → Type 0
Alike t u = (k : Key) → records_of t k ≡ records_of u k

same_files : (t u : Tables) → AreItemTables t → AreItemTables u → Alike t u → t.files ≡ u.files
unfolding item_at
same_files t u a b same =
    same_values nat_cmp nat_cmp_total nat_cmp-IsAntisymmetric file_item (λ k v w. refl) (λ k v w e. cc) t.files u.files a.files.0 a.files.1 b.files.0 b.files.1
    (λ f. same (record { kind = 1; a = f; b = 0 }))

pub chunk_record : (t : Tables) (c : chunk_order.Chunk) → records_of t (record { kind = 1; a = c.0; b = c.1 + 1 }) ≡ extents_changing.chunk_value_at t.extents c
unfolding item_at
chunk_record t c =
    let some : eqb (c.1 + 1) 0 ≡ false = ne_eqb (c.1 + 1) 0 (λ e. omega (arith, e)) in
    let back : c.1 + 1 - 1 ≡ c.1 = omega arith in
    rw (some, back) refl

same_extents : (t u : Tables) → AreItemTables t → AreItemTables u → Alike t u → t.extents ≡ u.extents
same_extents t u a b same =
    same_values chunk_order.chunk_cmp chunk_total same_chunk (λ (c : chunk_order.Chunk) (h : List Homes). chunk_item c.0 c.1 h) (λ k v w. refl) (λ k v w e. cc) t.extents u.extents a.extents.0 a.extents.1 b.extents.0 b.extents.1
    (λ c. sym (chunk_record t c) ∙ (same (record { kind = 1; a = c.0; b = c.1 + 1 }) ∙ chunk_record u c))

same_disks : (t u : Tables) → AreItemTables t → AreItemTables u → Alike t u → t.disks ≡ u.disks
unfolding item_at
same_disks t u a b same =
    same_values nat_cmp nat_cmp_total nat_cmp-IsAntisymmetric disk_item (λ k v w. refl) (λ k v w e. cc) t.disks u.disks a.disks.0 a.disks.1 b.disks.0 b.disks.1
    (λ d. same (record { kind = 2; a = d; b = 0 }))

same_nodes : (t u : Tables) → AreItemTables t → AreItemTables u → Alike t u → t.nodes ≡ u.nodes
unfolding item_at
same_nodes t u a b same =
    same_values nat_cmp nat_cmp_total nat_cmp-IsAntisymmetric node_item (λ k v w. refl) (λ k v w e. cc) t.nodes u.nodes a.nodes.0 a.nodes.1 b.nodes.0 b.nodes.1
    (λ n. same (record { kind = 6; a = n; b = 0 }))

same_marks : (t u : Tables) → AreItemTables t → AreItemTables u → Alike t u → t.stale ≡ u.stale
unfolding item_at
same_marks t u a b same =
    same_values chunk_order.chunk_cmp chunk_total same_chunk (λ (c : chunk_order.Chunk) (m : List ℕ). marks_item c.0 c.1 m) (λ k v w. refl) (λ k v w e. cc) t.stale u.stale a.stale.0 a.stale.1 b.stale.0 b.stale.1
    (λ c. same (record { kind = 12; a = c.0; b = c.1 }))

same_templates : (t u : Tables) → AreItemTables t → AreItemTables u → Alike t u → t.templates ≡ u.templates
unfolding item_at
same_templates t u a b same =
    let five = some_is (value (templates_item t.templates.templates)) (value (templates_item u.templates.templates)) (same (record { kind = 5; a = 0; b = 0 })) in
    let nine = some_is (value (settings_item t.templates.settings)) (value (settings_item u.templates.settings)) (same (record { kind = 9; a = 0; b = 0 })) in
    let list : t.templates.templates ≡ u.templates.templates = let e = same_item (templates_item t.templates.templates) (templates_item u.templates.templates) a.templates.templates b.templates.templates refl five in cc in
    let settings : t.templates.settings ≡ u.templates.settings = let e = same_item (settings_item t.templates.settings) (settings_item u.templates.settings) a.templates.settings b.templates.settings refl nine in cc in
    λ i. record { templates = list i; settings = settings i }

same_operations : (t u : Tables) → AreItemTables t → AreItemTables u → Alike t u → t.operations ≡ u.operations
unfolding item_at
same_operations t u a b same =
    let power = powers t.operations.rebalance u.operations.rebalance (power_ok t.operations a.operations) (power_ok u.operations b.operations) (same (record { kind = 4; a = 0; b = 0 })) in
    let pending = pendings t.operations.pending u.operations.pending (pending_ok t.operations a.operations) (pending_ok u.operations b.operations) (same (record { kind = 4; a = 1; b = 0 })) in
    λ i. record { pending = pending i; rebalance = power i }
  where
    power_ok : (t : Operations) → AreOperations t → (p : ℕ) → t.rebalance ≡ Some p → is_item (rebalance_item p) ≡ true
    power_ok t table p e = first t.rebalance t.pending table e where
      first : (r : Option ℕ) (o : Option PendingOperation) → AllByRecursion (λ i. IsTrue (is_item i)) (option_to_list (option_map rebalance_item r) ++ option_to_list (option_map pending_item o)) → r ≡ Some p → is_item (rebalance_item p) ≡ true
      first None o all e = absurd cc
      first (Some n) o all e = let same : n ≡ p = cc in rw (← same) all.0

    pending_ok : (t : Operations) → AreOperations t → (p : PendingOperation) → t.pending ≡ Some p → is_item (pending_item p) ≡ true
    pending_ok t table p e = second t.rebalance t.pending table e where
      second : (r : Option ℕ) (o : Option PendingOperation) → AllByRecursion (λ i. IsTrue (is_item i)) (option_to_list (option_map rebalance_item r) ++ option_to_list (option_map pending_item o)) → o ≡ Some p → is_item (pending_item p) ≡ true
      second r None all e = absurd cc
      second None (Some o) all e = let same : o ≡ p = cc in rw (← same) all.0
      second (Some n) (Some o) all e = let same : o ≡ p = cc in rw (← same) all.1.0

    powers : (o p : Option ℕ) → ((n : ℕ) → o ≡ Some n → is_item (rebalance_item n) ≡ true) → ((n : ℕ) → p ≡ Some n → is_item (rebalance_item n) ≡ true) → option_map value (option_map rebalance_item o) ≡ option_map value (option_map rebalance_item p) → o ≡ p
    powers None None f g e = refl
    powers None (Some w) f g e = absurd cc
    powers (Some v) None f g e = absurd cc
    powers (Some v) (Some w) f g e =
        let i = same_item (rebalance_item v) (rebalance_item w) (f v refl) (g w refl) refl (some_is (value (rebalance_item v)) (value (rebalance_item w)) e) in
        let is : v ≡ w = cc in
        ap (λ (n : ℕ). Some n) is

    pendings : (o p : Option PendingOperation) → ((n : PendingOperation) → o ≡ Some n → is_item (pending_item n) ≡ true) → ((n : PendingOperation) → p ≡ Some n → is_item (pending_item n) ≡ true) → option_map value (option_map pending_item o) ≡ option_map value (option_map pending_item p) → o ≡ p
    pendings None None f g e = refl
    pendings None (Some w) f g e = absurd cc
    pendings (Some v) None f g e = absurd cc
    pendings (Some v) (Some w) f g e =
        let i = same_item (pending_item v) (pending_item w) (f v refl) (g w refl) refl (some_is (value (pending_item v)) (value (pending_item w)) e) in
        let is : v ≡ w = cc in
        ap (λ (n : PendingOperation). Some n) is

pub same_tables : (t u : Tables) → AreItemTables t → AreItemTables u → ((k : Key) → records_of t k ≡ records_of u k) → t ≡ u
same_tables t u a b same =
    let files = same_files t u a b same in
    let extents = same_extents t u a b same in
    let nodes = same_nodes t u a b same in
    let templates = same_templates t u a b same in
    let stale = same_marks t u a b same in
    let operations = same_operations t u a b same in
    let disks = same_disks t u a b same in
    λ i. record { files = files i; extents = extents i; nodes = nodes i; templates = templates i; stale = stale i; operations = operations i; disks = disks i }
