-- What a group has begun and not ended, and its records.
use Rattle.std.specs.Prelude.{ℕ, Bool, ◌==◌, List, ◌++◌, map, Option, None, IsTrue}
use Rattle.std.specs.List.{AllByRecursion}
use Rattle.std.specs.Option.{option_map, option_to_list}
use Rattle.asm_formats.specs.Items.{Item, Key, Pending, is_item, pending_item, rebalance_item, operations_kind}
use Rattle.asm_base.specs.Records.{DirectoryRecord}
use Rattle.asm_base.specs.Tables.{item_record}

-- the pending operation, and the power of the active rebalance
pub record Operations : Type 0 where
  pub pending : Option Pending
  pub rebalance : Option ℕ

abbrev pub nothing_begun : Operations
nothing_begun = record { pending = None; rebalance = None }

-- the items of a table, in the order of their keys
abbrev pub items_of : Operations → List Item
items_of t = option_to_list (option_map rebalance_item t.rebalance) ++ option_to_list (option_map pending_item t.pending)

abbrev pub records_of_operations : Operations → List DirectoryRecord
records_of_operations t = map item_record (items_of t)

-- each of the formats
abbrev pub IsOperationTable : Operations → Type 0
IsOperationTable t = AllByRecursion (λ i. IsTrue (is_item i)) (items_of t)

abbrev pub is_operation : Key → Bool
is_operation key = key.kind == operations_kind
