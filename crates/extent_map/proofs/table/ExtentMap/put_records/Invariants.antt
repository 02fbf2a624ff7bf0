use Rattle.std.proofs.Common.{◌≡◌, ◌++◌, map}
use Rattle.std.specs.List.{AllByRecursion}
use Rattle.extent_map.specs.Extents.{IsNumbered, record_of_chunk}
use Rattle.extent_map.proofs.table.ExtentMap.put_records.Given as goal

abbrev pub invariant-loop-at : goal.invariant-loop-at
invariant-loop-at l = record {
  put : l.change.put ++ map record_of_chunk l.at-iterator ≡ l.fn.change.put ++ map record_of_chunk l.self;
  gone : l.change.gone ≡ l.fn.change.gone;
  numbered : AllByRecursion IsNumbered l.at-iterator;
}
