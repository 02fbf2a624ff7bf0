use Rattle.std.proofs.Common.{arith}
use Rattle.asm_placement.proofs.Starts.{start_second, start_third}
use Rattle.asm_placement.proofs.layout.starts_row.Goals as goal

pub returns : goal.returns
returns c = record {
  second_of_four = start_second 1048576 20000 1 (omega arith);
  first_of_sixteen = start_third 1048576 20000 0;
}
