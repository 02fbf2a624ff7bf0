-- The values of the records of operations are read exactly.
use Rattle.std.proofs.Common.{◌≡◌, ℕ, zero, suc, List, Option, Some, None, refl, sym, ap, ◌∙◌, arith}
use Rattle.std.specs.Int.{w16}
use Rattle.std.specs.Option.{option_map}
use Rattle.asm_formats.specs.Items.{Item, file_item, chunk_item, disk_item, rebalance_item, pending_item, templates_item, node_item, settings_item, marks_item, Key, Pending as PendingOperation}
use Rattle.asm_formats.specs.Values.{decoded_item, pending_at}
use Rattle.asm_base.specs.Readings.{number_reading}
use Rattle.asm_base.specs.Records.{all_of}
use Rattle.asm_base.specs.Tables.{entry_of_record}
use Rattle.asm_base.proofs.Exact.{some_is}
use Rattle.asm_base.proofs.ItemTables.{IsEntry, entry_is_read}
use Rattle.record_values.specs.Values.{pending_reading}
use Rattle.record_values.proofs.Decoded.{nothing_decoded}
use Rattle.record_values.proofs.Operations.{pending_decoded, pending_form, power_decoded, power_form}
use Rattle.operations_directory.specs.declared.reading.Operation.{Operation}
use Rattle.operations_directory.specs.declared.reading.Operation.TheVariants.{Rebalance, Pending}
use Rattle.operations_directory.specs.Readings.{item_of_operation, operation_of, read_operation}

-- ---- what is read is the item

abbrev operation_key : ℕ → ℕ → Key
operation_key a b = record { kind = 4; a = a; b = b }

item_map : (o : Option ℕ) → option_map item_of_operation (option_map Rebalance o) ≡ option_map rebalance_item o
item_map (Some n) = refl
item_map None = refl

pending_map : (o : Option PendingOperation) → option_map item_of_operation (option_map Pending o) ≡ option_map pending_item o
pending_map (Some n) = refl
pending_map None = refl

-- no record has a second number, or another first one
no_power : (b : ℕ) (bytes : List ℕ) → None ≡ decoded_item (operation_key 0 (suc b)) bytes
no_power b bytes =
    let f = power_form (suc b) bytes in
    sym (nothing_decoded (operation_key 0 (suc b)) bytes (rebalance_item f.0) f.1 (λ ok at. omega (arith, ap (λ (k : Key). k.b) at)))

no_pending : (a b : ℕ) (bytes : List ℕ) → None ≡ decoded_item (operation_key (suc a) (suc b)) bytes
no_pending a b bytes =
    sym (nothing_decoded (operation_key (suc a) (suc b)) bytes (pending_item (pending_at bytes)) (pending_form (suc a) (suc b) bytes (λ e. omega (arith, e))) (λ ok at. omega (arith, ap (λ (k : Key). k.b) at)))

no_other : (a b : ℕ) (bytes : List ℕ) → None ≡ decoded_item (operation_key (suc (suc a)) b) bytes
no_other a b bytes =
    sym (nothing_decoded (operation_key (suc (suc a)) b) bytes (pending_item (pending_at bytes)) (pending_form (suc (suc a)) b bytes (λ e. omega (arith, e))) (λ ok at. omega (arith, ap (λ (k : Key). k.a) at)))

value_read : (a b : ℕ) (bytes : List ℕ) → option_map item_of_operation (read_operation a b bytes) ≡ decoded_item (operation_key a b) bytes
value_read zero zero bytes = item_map (all_of (number_reading w16) bytes) ∙ power_decoded bytes
value_read (suc zero) zero bytes = pending_map (all_of pending_reading bytes) ∙ pending_decoded bytes
value_read zero (suc b) bytes = no_power b bytes
value_read (suc zero) (suc b) bytes = no_pending 0 b bytes
value_read (suc (suc a)) zero bytes = no_other a 0 bytes
value_read (suc (suc a)) (suc b) bytes = no_other a (suc b) bytes

-- ---- entries

pub operation_entry : IsEntry item_of_operation operation_of
operation_entry = record { there = there; back = back } where
  there : (i : Item) (o : Operation) → operation_of i ≡ Some o → item_of_operation o ≡ i
  there (rebalance_item n) o e = ap item_of_operation (sym (some_is (Rebalance n) o e))
  there (pending_item p) o e = ap item_of_operation (sym (some_is (Pending p) o e))
  there (file_item f h) o e = absurd cc
  there (chunk_item f c h) o e = absurd cc
  there (disk_item d i) o e = absurd cc
  there (templates_item ts) o e = absurd cc
  there (node_item n m) o e = absurd cc
  there (settings_item s) o e = absurd cc
  there (marks_item f c m) o e = absurd cc

  back : (o : Operation) → operation_of (item_of_operation o) ≡ Some o
  back (Rebalance n) = refl
  back (Pending p) = refl

map_same : {A : Type 0} (o : Option A) → option_map (λ x. x) o ≡ o
map_same (Some x) = refl
map_same None = refl

pub operation_is_read : (kind a b : ℕ) (k : Key) → ◌≡◌ {A = Key} (record { kind = kind; a = a; b = b }) k → k.kind ≡ 4 → (bytes : List ℕ) (read : Option Operation)
    → read ≡ read_operation a b bytes → read ≡ entry_of_record operation_of (k, bytes)
operation_is_read kind a b k view four bytes read is =
    let kind_four : kind ≡ 4 = ap (λ (j : Key). j.kind) view ∙ four in
    let at : operation_key a b ≡ k = ap (λ (n : ℕ). record { kind = n; a = a; b = b }) (sym kind_four) ∙ view in
    let decodes : option_map item_of_operation read ≡ decoded_item k bytes = ap (option_map item_of_operation) is ∙ value_read a b bytes ∙ ap (λ (j : Key). decoded_item j bytes) at in
    sym (entry_is_read operation_entry item_of_operation (λ o. o) (λ o. refl) (k, bytes) read decodes ∙ map_same read)
