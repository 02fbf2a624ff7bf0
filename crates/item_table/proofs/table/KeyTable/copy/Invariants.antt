use Rattle.std.proofs.Common.{◌≡◌, ◌++◌}
use Rattle.std.specs.Prelude.{IsTrue}
use Rattle.std.specs.List.{AllByRecursion}
use Rattle.asm_base.specs.asm_formats.Items.{is_item}
use Rattle.asm_base.specs.Records.{Ascend}
use Rattle.item_table.specs.Tables.{is_key_before}
use Rattle.item_table.proofs.table.KeyTable.copy.Given as goal

abbrev pub invariant-loop-key : goal.invariant-loop-key
invariant-loop-key g l = record {
  copied : l.copy ++ l.key-iterator ≡ l.self;
  ascend : Ascend (is_key_before g.K.Ord.cmp) l.self;
  items : AllByRecursion (λ x. IsTrue (is_item (g.T.Listed.item_of x))) l.key-iterator;
}
