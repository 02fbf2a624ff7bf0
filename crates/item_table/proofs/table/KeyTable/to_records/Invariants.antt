use Rattle.std.proofs.Common.{◌≡◌, ◌++◌, map}
use Rattle.std.specs.Prelude.{IsTrue}
use Rattle.std.specs.List.{AllByRecursion}
use Rattle.asm_base.specs.asm_formats.Items.{is_item}
use Rattle.item_table.specs.Tables.{record_of}
use Rattle.item_table.proofs.table.KeyTable.to_records.Given as goal

abbrev pub invariant-loop-key : goal.invariant-loop-key
invariant-loop-key g l = record {
  put : l.change.put ++ map (record_of g.T.Listed.item_of) l.key-iterator ≡ l.fn.change.put ++ map (record_of g.T.Listed.item_of) l.self;
  gone : l.change.gone ≡ l.fn.change.gone;
  items : AllByRecursion (λ x. IsTrue (is_item (g.T.Listed.item_of x))) l.key-iterator;
}
