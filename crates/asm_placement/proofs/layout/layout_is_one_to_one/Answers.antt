use Rattle.asm_placement.proofs.Places.{one_place_of}
use Rattle.asm_placement.proofs.layout.layout_is_one_to_one.Goals as goal

pub returns : goal.returns
returns c = one_place_of
