use Rattle.asm_placement.proofs.Places.{whole_count}
use Rattle.asm_placement.proofs.layout.extents_hold_the_file.Goals as goal

pub returns : goal.returns
returns c = λ stripe au step size n is has. whole_count stripe au step size n has
