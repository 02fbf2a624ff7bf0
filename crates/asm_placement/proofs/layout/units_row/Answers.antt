use Rattle.std.proofs.Common.{refl}
use Rattle.asm_placement.specs.Layout.{units_of}
use Rattle.asm_placement.proofs.layout.units_row.Goals as goal

pub returns : goal.returns
unfolding units_of
returns c = record { last_of_one = refl; first_of_four = refl; last_of_four = refl; first_of_sixteen = refl }
