-- What a change of records does to the table of operations.
use Rattle.std.specs.Prelude.{ℕ, ◌==◌, List, Option, Some, None, if◌then◌else◌}
use Rattle.std.specs.Option.{option_map}
use Rattle.asm_formats.specs.Items.{Item, Key, pending_item, rebalance_item}
use Rattle.asm_formats.specs.Values.{value}
use Rattle.operations_directory.specs.declared.reading.Operation.{Operation}
use Rattle.operations_directory.specs.declared.reading.Operation.TheVariants.{Rebalance, Pending}
use Rattle.operations_directory.specs.Operations.{Operations}

-- what the table says at a key of its kind
abbrev pub operation_item_at : Operations → Key → Option Item
operation_item_at t k = if k.b == 0 then (if k.a == 0 then option_map rebalance_item t.rebalance else if k.a == 1 then option_map pending_item t.pending else None) else None

-- the value of its record
abbrev pub operation_value_at : Operations → Key → Option (List ℕ)
operation_value_at t k = option_map value (operation_item_at t k)

-- the table with an operation in place of the one of its kind
abbrev pub set_operation : Operations → Operation → Operations
set_operation t (Rebalance power) = record t { rebalance = Some power }
set_operation t (Pending p) = record t { pending = Some p }
