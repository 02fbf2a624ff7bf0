-- One record more, and one that goes.
use Rattle.std.proofs.Common.{◌≡◌, ℕ, Bool, true, false, cond, eqb, List, ◌++◌, Option, Some, None, refl, sym, ap, ◌∙◌, inl, inr, ◌⊎◌}
use Rattle.std.specs.Prelude.{◌&&◌, IsTrue}
use Rattle.std.specs.Option.{option_map, option_to_list}
use Rattle.std.specs.List.{AllByRecursion}
use Rattle.std.proofs.lemmas.Bool.{eq-eqb, eqb-true, true≢false}
use Rattle.asm_formats.specs.Items.{Item, Key, Pending as PendingOperation, is_item, is_same_key, pending_item, rebalance_item}
use Rattle.asm_formats.specs.Values.{decoded_item, value}
use Rattle.asm_formats.proofs.Bodies.{item_codec}
use Rattle.asm_base.specs.Records.{DirectoryRecord}
use Rattle.asm_base.specs.Tables.{entry_of_record, item_record}
use Rattle.asm_base.proofs.Exact.{bind_some}
use Rattle.operations_directory.specs.declared.reading.Operation.{Operation}
use Rattle.operations_directory.specs.declared.reading.Operation.TheVariants.{Rebalance, Pending}
use Rattle.operations_directory.specs.Changing.{set_operation, operation_value_at}
use Rattle.operations_directory.specs.Operations.{IsOperationTable, Operations}
use Rattle.operations_directory.specs.Readings.{item_of_operation, operation_of}
use Rattle.operations_directory.proofs.Values.{operation_entry}

either : (b : Bool) → (b ≡ true) ⊎ (b ≡ false)
either true = inl refl
either false = inr refl

-- the item that is read is that of the record
item_is : (k : Key) (v : List ℕ) (o : Operation) → entry_of_record operation_of (k, v) ≡ Some o → (item_record (item_of_operation o) ≡ (k, v)) × (is_item (item_of_operation o) ≡ true)
unfolding entry_of_record
item_is k v o e =
    let b = bind_some operation_of (decoded_item k v) o e in
    let d = item_codec.decoded k v b.0 b.1 in
    let same : item_of_operation o ≡ b.0 = operation_entry.there b.0 o b.2 in
    let pair : item_record b.0 ≡ (k, v) = ap (λ (j : Key). (j, value b.0)) d.1 ∙ ap (λ (w : List ℕ). (k, w)) (sym d.2) in
    (ap item_record same ∙ pair, ap is_item same ∙ d.0)

-- a key of this kind by its numbers
at_numbers : (j k : Key) → j.kind ≡ 4 → k.kind ≡ 4 → is_same_key j k ≡ (eqb j.a k.a && eqb j.b k.b)
at_numbers j k four too = rw (four, too) refl

rebalance_is : (t : Operations) (p : ℕ) (r : Option ℕ) (v : Option (List ℕ)) (k : Key) → option_map value (option_map rebalance_item r) ≡ v
    → operation_value_at (record { pending = t.pending; rebalance = r }) k ≡ cond (eqb 0 k.a && eqb 0 k.b) v (operation_value_at t k)
rebalance_is t p r v k e = elim (either (eqb k.b 0)) [
  | inl b ↦ elim (either (eqb k.a 0)) [
    | inl a ↦
        let kb : k.b ≡ 0 = eqb-true k.b 0 b in
        let ka : k.a ≡ 0 = eqb-true k.a 0 a in
        rw (ka, kb) e
    | inr a ↦ let other : eqb 0 k.a ≡ false = turned 0 k.a a in rw (b, a, other) refl
  ]
  | inr b ↦ let other : eqb 0 k.b ≡ false = turned 0 k.b b in rw (b, other) (neither (eqb 0 k.a) v)
] where
  turned : (m n : ℕ) → eqb n m ≡ false → eqb m n ≡ false
  turned m n e = elim (either (eqb m n)) [ inl x ↦ absurd (true≢false (sym (eq-eqb n m (sym (eqb-true m n x))) ∙ e)) | inr x ↦ x ]

  neither : (b : Bool) (w : Option (List ℕ)) → None ≡ cond (b && false) w None
  neither true w = refl
  neither false w = refl

pending_is : (t : Operations) (r : Option PendingOperation) (v : Option (List ℕ)) (k : Key) → option_map value (option_map pending_item r) ≡ v
    → operation_value_at (record { pending = r; rebalance = t.rebalance }) k ≡ cond (eqb 1 k.a && eqb 0 k.b) v (operation_value_at t k)
pending_is t r v k e = elim (either (eqb k.b 0)) [
  | inl b ↦ elim (either (eqb k.a 1)) [
    | inl a ↦
        let kb : k.b ≡ 0 = eqb-true k.b 0 b in
        let ka : k.a ≡ 1 = eqb-true k.a 1 a in
        rw (ka, kb) e
    | inr a ↦ let other : eqb 1 k.a ≡ false = turned 1 k.a a in rw (b, a, other) refl
  ]
  | inr b ↦ let other : eqb 0 k.b ≡ false = turned 0 k.b b in rw (b, other) (neither (eqb 1 k.a) v)
] where
  turned : (m n : ℕ) → eqb n m ≡ false → eqb m n ≡ false
  turned m n e = elim (either (eqb m n)) [ inl x ↦ absurd (true≢false (sym (eq-eqb n m (sym (eqb-true m n x))) ∙ e)) | inr x ↦ x ]

  neither : (b : Bool) (w : Option (List ℕ)) → None ≡ cond (b && false) w None
  neither true w = refl
  neither false w = refl

-- the key of an item, and its value
key_is : (i : Item) (k : Key) (v : List ℕ) → item_record i ≡ (k, v) → (item_record i).0 ≡ k
key_is i k v e = ap (λ (x : DirectoryRecord). x.0) e

value_is : (i : Item) (k : Key) (v : List ℕ) → item_record i ≡ (k, v) → value i ≡ v
value_is i k v e = ap (λ (x : DirectoryRecord). x.1) e

pub rebalance_put : (t new : Operations) (j : Key) (v : List ℕ) (p : ℕ) → entry_of_record operation_of (j, v) ≡ Some (Rebalance p) → new ≡ record t { rebalance = Some p }
    → (k : Key) → k.kind ≡ 4 → operation_value_at new k ≡ cond (is_same_key j k) (Some v) (operation_value_at t k)
rebalance_put t new j v p read is k four =
    let i = (item_is j v (Rebalance p) read).0 in
    let at = key_is (rebalance_item p) j v i in
    let said : option_map value (option_map rebalance_item (Some p)) ≡ Some v = ap (λ (w : List ℕ). Some w) (value_is (rebalance_item p) j v i) in
    rw (is, at_numbers j k (sym (ap (λ (x : Key). x.kind) at)) four, ← (ap (λ (x : Key). x.a) at), ← (ap (λ (x : Key). x.b) at)) (rebalance_is t p (Some p) (Some v) k said)

pub pending_put : (t new : Operations) (j : Key) (v : List ℕ) (p : PendingOperation) → entry_of_record operation_of (j, v) ≡ Some (Pending p) → new ≡ record t { pending = Some p }
    → (k : Key) → k.kind ≡ 4 → operation_value_at new k ≡ cond (is_same_key j k) (Some v) (operation_value_at t k)
pending_put t new j v p read is k four =
    let i = (item_is j v (Pending p) read).0 in
    let at = key_is (pending_item p) j v i in
    let said : option_map value (option_map pending_item (Some p)) ≡ Some v = ap (λ (w : List ℕ). Some w) (value_is (pending_item p) j v i) in
    rw (is, at_numbers j k (sym (ap (λ (x : Key). x.kind) at)) four, ← (ap (λ (x : Key). x.a) at), ← (ap (λ (x : Key). x.b) at)) (pending_is t (Some p) (Some v) k said)

pub rebalance_gone : (t new : Operations) (j : Key) → j.kind ≡ 4 → j.b ≡ 0 → j.a ≡ 0 → new ≡ record t { rebalance = None }
    → (k : Key) → k.kind ≡ 4 → operation_value_at new k ≡ cond (is_same_key j k) None (operation_value_at t k)
rebalance_gone t new j kind b a is k four = rw (is, at_numbers j k kind four, a, b) (rebalance_is t 0 None None k refl)

pub pending_gone : (t new : Operations) (j : Key) → j.kind ≡ 4 → j.b ≡ 0 → j.a ≡ 1 → new ≡ record t { pending = None }
    → (k : Key) → k.kind ≡ 4 → operation_value_at new k ≡ cond (is_same_key j k) None (operation_value_at t k)
pending_gone t new j kind b a is k four = rw (is, at_numbers j k kind four, a, b) (pending_is t None None k refl)

-- the table says nothing at other keys
nothing : (t : Operations) (k : Key) → (k.b ≡ 0 → (k.a ≡ 0 → ⊥) × (k.a ≡ 1 → ⊥)) → operation_value_at t k ≡ None
nothing t k none = elim (either (eqb k.b 0)) [
  | inl b ↦ let n = none (eqb-true k.b 0 b) in rw (b, not k.a 0 n.0, not k.a 1 n.1) refl
  | inr b ↦ rw b refl
] where
  not : (m n : ℕ) → (m ≡ n → ⊥) → eqb m n ≡ false
  not m n apart = elim (either (eqb m n)) [ inl x ↦ absurd (apart (eqb-true m n x)) | inr x ↦ x ]

pub other_gone : (t : Operations) (j : Key) → j.kind ≡ 4 → (j.b ≡ 0 → (j.a ≡ 0 → ⊥) × (j.a ≡ 1 → ⊥)) → (k : Key) → k.kind ≡ 4 → operation_value_at t k ≡ cond (is_same_key j k) None (operation_value_at t k)
other_gone t j kind none k four = elim (either (is_same_key j k)) [
  | inl hit ↦
      let a : j.a ≡ k.a = eqb-true j.a k.a (parts (eqb j.a k.a) (eqb j.b k.b) (sym (at_numbers j k kind four) ∙ hit)).0 in
      let b : j.b ≡ k.b = eqb-true j.b k.b (parts (eqb j.a k.a) (eqb j.b k.b) (sym (at_numbers j k kind four) ∙ hit)).1 in
      rw hit (nothing t k (λ z. ((λ x. (none (b ∙ z)).0 (a ∙ x)), (λ x. (none (b ∙ z)).1 (a ∙ x)))))
  | inr miss ↦ rw miss refl
] where
  parts : (a b : Bool) → (a && b) ≡ true → (a ≡ true) × (b ≡ true)
  parts true true e = (refl, refl)
  parts true false e = absurd (true≢false (sym e))
  parts false b e = absurd (true≢false (sym e))

-- ---- a table stays one

of_parts : (t : Operations) → ((p : ℕ) → t.rebalance ≡ Some p → is_item (rebalance_item p) ≡ true) → ((p : PendingOperation) → t.pending ≡ Some p → is_item (pending_item p) ≡ true) → IsOperationTable t
of_parts t r p = both t.rebalance t.pending r p where
  both : (r : Option ℕ) (p : Option PendingOperation) → ((n : ℕ) → r ≡ Some n → is_item (rebalance_item n) ≡ true) → ((o : PendingOperation) → p ≡ Some o → is_item (pending_item o) ≡ true)
      → AllByRecursion (λ i. IsTrue (is_item i)) (option_to_list (option_map rebalance_item r) ++ option_to_list (option_map pending_item p))
  both None None f g = tt
  both (Some n) None f g = (f n refl, tt)
  both None (Some o) f g = (g o refl, tt)
  both (Some n) (Some o) f g = (f n refl, (g o refl, tt))

rebalance_of : (t : Operations) → IsOperationTable t → (p : ℕ) → t.rebalance ≡ Some p → is_item (rebalance_item p) ≡ true
rebalance_of t table p e = one t.rebalance t.pending table e where
  one : (r : Option ℕ) (o : Option PendingOperation) → AllByRecursion (λ i. IsTrue (is_item i)) (option_to_list (option_map rebalance_item r) ++ option_to_list (option_map pending_item o)) → r ≡ Some p → is_item (rebalance_item p) ≡ true
  one None o all e = absurd cc
  one (Some n) o all e = let same : n ≡ p = cc in rw (← same) all.0

pending_of : (t : Operations) → IsOperationTable t → (p : PendingOperation) → t.pending ≡ Some p → is_item (pending_item p) ≡ true
pending_of t table p e = one t.rebalance t.pending table e where
  one : (r : Option ℕ) (o : Option PendingOperation) → AllByRecursion (λ i. IsTrue (is_item i)) (option_to_list (option_map rebalance_item r) ++ option_to_list (option_map pending_item o)) → o ≡ Some p → is_item (pending_item p) ≡ true
  one r None all e = absurd cc
  one None (Some o) all e = let same : o ≡ p = cc in rw (← same) all.0
  one (Some n) (Some o) all e = let same : o ≡ p = cc in rw (← same) all.1.0

pub rebalance_table : (t new : Operations) (j : Key) (v : List ℕ) (p : ℕ) → entry_of_record operation_of (j, v) ≡ Some (Rebalance p) → new ≡ record t { rebalance = Some p } → IsOperationTable t → IsOperationTable new
rebalance_table t new j v p read is table =
    let ok = (item_is j v (Rebalance p) read).1 in
    rw is (of_parts (record t { rebalance = Some p }) (λ q e. let same : p ≡ q = cc in rw (← same) ok) (λ q e. pending_of t table q e))

pub pending_table : (t new : Operations) (j : Key) (v : List ℕ) (p : PendingOperation) → entry_of_record operation_of (j, v) ≡ Some (Pending p) → new ≡ record t { pending = Some p } → IsOperationTable t → IsOperationTable new
pending_table t new j v p read is table =
    let ok = (item_is j v (Pending p) read).1 in
    rw is (of_parts (record t { pending = Some p }) (λ q e. rebalance_of t table q e) (λ q e. let same : p ≡ q = cc in rw (← same) ok))

pub no_rebalance : (t new : Operations) → new ≡ record t { rebalance = None } → IsOperationTable t → IsOperationTable new
no_rebalance t new is table = rw is (of_parts (record t { rebalance = None }) (λ q e. absurd cc) (λ q e. pending_of t table q e))

pub no_pending : (t new : Operations) → new ≡ record t { pending = None } → IsOperationTable t → IsOperationTable new
no_pending t new is table = rw is (of_parts (record t { pending = None }) (λ q e. rebalance_of t table q e) (λ q e. absurd cc))

pub operation_put : (t new : Operations) (j k : Key) (v : List ℕ) (o : Operation) → entry_of_record operation_of (j, v) ≡ Some o → new ≡ set_operation t o
    → k.kind ≡ 4 → operation_value_at new k ≡ cond (is_same_key j k) (Some v) (operation_value_at t k)
operation_put t new j k v (Rebalance p) read is four = rebalance_put t new j v p read is k four
operation_put t new j k v (Pending p) read is four = pending_put t new j v p read is k four

pub operation_table : (t new : Operations) (j : Key) (v : List ℕ) (o : Operation) → entry_of_record operation_of (j, v) ≡ Some o → new ≡ set_operation t o → IsOperationTable t → IsOperationTable new
operation_table t new j v (Rebalance p) read is table = rebalance_table t new j v p read is table
operation_table t new j v (Pending p) read is table = pending_table t new j v p read is table

-- ---- by the power and the operation themselves

pub power_set : (t : Operations) (p : ℕ) (k : Key) → k.kind ≡ 4 → operation_value_at (record t { rebalance = Some p }) k ≡ cond (is_same_key (record { kind = 4; a = 0; b = 0 }) k) (Some (value (rebalance_item p))) (operation_value_at t k)
power_set t p k four = rw (at_numbers (record { kind = 4; a = 0; b = 0 }) k refl four) (rebalance_is t p (Some p) (Some (value (rebalance_item p))) k refl)

pub operation_set : (t : Operations) (p : PendingOperation) (k : Key) → k.kind ≡ 4 → operation_value_at (record t { pending = Some p }) k ≡ cond (is_same_key (record { kind = 4; a = 1; b = 0 }) k) (Some (value (pending_item p))) (operation_value_at t k)
operation_set t p k four = rw (at_numbers (record { kind = 4; a = 1; b = 0 }) k refl four) (pending_is t (Some p) (Some (value (pending_item p))) k refl)

pub power_allowed : (t : Operations) (p : ℕ) → is_item (rebalance_item p) ≡ true → IsOperationTable t → IsOperationTable (record t { rebalance = Some p })
power_allowed t p ok table = of_parts (record t { rebalance = Some p }) (λ q e. let same : p ≡ q = cc in rw (← same) ok) (λ q e. pending_of t table q e)

pub operation_allowed : (t : Operations) (p : PendingOperation) → is_item (pending_item p) ≡ true → IsOperationTable t → IsOperationTable (record t { pending = Some p })
operation_allowed t p ok table = of_parts (record t { pending = Some p }) (λ q e. rebalance_of t table q e) (λ q e. let same : p ≡ q = cc in rw (← same) ok)
