use Rattle.asm_images.proofs.Covers.{fewer_copies_are_covered}
use Rattle.asm_images.proofs.covering.fewer_copies_are_covered.Goals as goal

pub returns : goal.returns
returns c = fewer_copies_are_covered
