use Rattle.asm_images.proofs.Covers.{modes_are_covered}
use Rattle.asm_images.proofs.covering.modes_are_covered.Goals as goal

pub returns : goal.returns
returns c = modes_are_covered
