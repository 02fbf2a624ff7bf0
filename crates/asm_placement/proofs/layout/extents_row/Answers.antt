use Rattle.std.proofs.Common.{refl}
use Rattle.asm_placement.specs.Layout.{units_of, start}
use Rattle.asm_placement.proofs.layout.extents_row.Goals as goal

pub returns : goal.returns
unfolding units_of start
returns c = record { units = refl; last = refl; no_more = refl; last_of_longer = refl; no_more_of_longer = refl; last_of_fine = refl; no_more_of_fine = refl }
