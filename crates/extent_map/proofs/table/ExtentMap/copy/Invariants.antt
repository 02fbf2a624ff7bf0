use Rattle.std.proofs.Common.{◌≡◌, ◌++◌}
use Rattle.asm_base.specs.Records.{Ascend}
use Rattle.asm_base.specs.Chunks.{is_chunk_before}
use Rattle.extent_map.proofs.table.ExtentMap.copy.Given as goal

abbrev pub invariant-loop-at : goal.invariant-loop-at
invariant-loop-at l = record {
  copied : l.copy ++ l.at-iterator ≡ l.self;
  ascend : Ascend is_chunk_before l.self;
}
