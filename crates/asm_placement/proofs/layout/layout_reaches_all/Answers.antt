use Rattle.asm_placement.proofs.Places.{place_of}
use Rattle.asm_placement.proofs.layout.layout_reaches_all.Goals as goal

pub returns : goal.returns
returns c = place_of
