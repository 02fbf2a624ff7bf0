use Rattle.std.proofs.Common.{◌≡◌, List, [], Option, Some, map}
use Rattle.std.specs.Prelude.{IfSome}
use Rattle.std.proofs.lemmas.Result.{IfOk-weaker}
use Rattle.asm_base.specs.Records.{of_kinds, read_from}
use Rattle.item_table.specs.Tables.{IsTable, add_record, record_of}
use Rattle.item_table.proofs.Laws.{table_found, table_again}
use Rattle.item_table.proofs.table.KeyTable.from_records.Goals as goal

pub returns-clause-found : goal.returns-clause-found
returns-clause-found g c =
    IfOk-weaker c.read.result (λ (read : Option (List (g.row.K.Denot × g.row.T.Denot))). read ≡ read_from g.T.Listed.is_mine (add_record g.K.Ord.cmp g.T.Listed.entry_of) [] c.args.records.now)
    (λ (read : Option (List (g.row.K.Denot × g.row.T.Denot))). IfSome read (λ t. IsTable g.K.Ord.cmp g.T.Listed.item_of t × (of_kinds g.T.Listed.is_mine c.args.records.now ≡ map (record_of g.T.Listed.item_of) t)))
    (λ read e. table_found g.met.T.Listed.is_entry g.T.Listed.is_mine g.K.Ord.cmp c.args.records.now read e) c.read.ensures

pub returns-clause-only : goal.returns-clause-only
returns-clause-only g c =
    IfOk-weaker c.read.result (λ (read : Option (List (g.row.K.Denot × g.row.T.Denot))). read ≡ read_from g.T.Listed.is_mine (add_record g.K.Ord.cmp g.T.Listed.entry_of) [] c.args.records.now)
    (λ (read : Option (List (g.row.K.Denot × g.row.T.Denot))). (t : List (g.row.K.Denot × g.row.T.Denot)) → IsTable g.K.Ord.cmp g.T.Listed.item_of t → of_kinds g.T.Listed.is_mine c.args.records.now ≡ map (record_of g.T.Listed.item_of) t → read ≡ Some t)
    (λ read e t fits same. table_again g.met.T.Listed.is_entry g.T.Listed.is_mine g.K.Ord.cmp c.args.records.now read t e fits same) c.read.ensures
