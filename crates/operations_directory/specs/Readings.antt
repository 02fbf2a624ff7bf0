-- The reading of the table of operations, record by record.
use Rattle.std.specs.Prelude.{ℕ, zero, suc, ◌||◌, List, Option, Some, None, if◌then◌else◌}
use Rattle.std.specs.Int.{w16}
use Rattle.std.specs.Option.{is_some, option_and_then, option_map}
use Rattle.asm_formats.specs.Items.{Item, Pending as PendingOperation, pending_item, rebalance_item}
use Rattle.asm_base.specs.Readings.{number_reading}
use Rattle.asm_base.specs.Records.{DirectoryRecord, all_of}
use Rattle.asm_base.specs.Tables.{entry_of_record}
use Rattle.operations_directory.specs.declared.reading.Operation.{Operation}
use Rattle.operations_directory.specs.declared.reading.Operation.TheVariants.{Rebalance, Pending}
use Rattle.operations_directory.specs.Operations.{Operations}
use Rattle.record_values.specs.Values.{pending_reading}

-- the item that says an operation, and the operation that an item says
abbrev pub item_of_operation : Operation → Item
item_of_operation (Rebalance power) = rebalance_item power
item_of_operation (Pending p) = pending_item p

abbrev pub operation_of : Item → Option Operation
operation_of (rebalance_item power) = Some (Rebalance power)
operation_of (pending_item p) = Some (Pending p)
operation_of _ = None

-- ---- values

-- the value of the record of two numbers
abbrev pub read_operation : ℕ → ℕ → List ℕ → Option Operation
read_operation zero zero bytes = option_map Rebalance (all_of (number_reading w16) bytes)
read_operation (suc zero) zero bytes = option_map Pending (all_of pending_reading bytes)
read_operation a b bytes = None

-- ---- the table with one record more, where that follows the others

abbrev pub with_rebalance : Operations → ℕ → Option Operations
with_rebalance t power = if is_some t.pending || is_some t.rebalance then None else Some (record { pending = None; rebalance = Some power })

abbrev pub with_pending : Operations → PendingOperation → Option Operations
with_pending t p = if is_some t.pending then None else Some (record { pending = Some p; rebalance = t.rebalance })

abbrev pub with_operation : Operations → Operation → Option Operations
with_operation t (Rebalance power) = with_rebalance t power
with_operation t (Pending p) = with_pending t p

abbrev pub add_operation_record : Operations → DirectoryRecord → Option Operations
add_operation_record t e = option_and_then (with_operation t) (entry_of_record operation_of e)
