use Rattle.asm_placement.proofs.Places.{bytes_of_whole}
use Rattle.asm_placement.proofs.layout.layout_fills_sets.Goals as goal

pub returns : goal.returns
returns c = bytes_of_whole
