use Rattle.std.proofs.Common.{◌≡◌, []}
use Rattle.asm_base.specs.Records.{Ascend, read_from}
use Rattle.extent_map.specs.Extents.{add_chunk_record, is_chunk}
use Rattle.asm_base.specs.Chunks.{is_chunk_before}
use Rattle.extent_map.proofs.table.ExtentMap.read.Given as goal

abbrev pub invariant-loop-key : goal.invariant-loop-key
invariant-loop-key l = record {
  read : read_from is_chunk add_chunk_record l.table l.key-iterator ≡ read_from is_chunk add_chunk_record [] l.records;
  ascending : Ascend is_chunk_before l.table;
}
