use Rattle.std.proofs.Common.{◌≡◌, []}
use Rattle.asm_base.specs.Records.{read_from}
use Rattle.item_table.specs.Tables.{add_record}
use Rattle.item_table.proofs.table.KeyTable.read.Given as goal

abbrev pub invariant-loop-key : goal.invariant-loop-key
invariant-loop-key g l = record {
  read : read_from g.T.Listed.is_mine (add_record g.K.Ord.cmp g.T.Listed.entry_of) l.table l.key-iterator ≡ read_from g.T.Listed.is_mine (add_record g.K.Ord.cmp g.T.Listed.entry_of) [] l.records;
}
