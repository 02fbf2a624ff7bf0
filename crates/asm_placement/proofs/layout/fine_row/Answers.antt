use Rattle.std.proofs.Common.{refl, lit<}
use Rattle.asm_placement.specs.Layout.{units_of, start}
use Rattle.asm_placement.proofs.layout.fine_row.Goals as goal

pub returns : goal.returns
unfolding units_of start
returns c = record {
  end_of_chunk = record { inside = lit< tt; byte = refl };
  next_chunk = record { inside = lit< tt; byte = refl };
  next_round = record { inside = lit< tt; byte = refl };
}
