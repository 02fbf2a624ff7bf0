use Rattle.asm_images.proofs.OtherEntries.{entries_are_covered}
use Rattle.asm_images.proofs.covering.entries_are_covered.Goals as goal

pub returns : goal.returns
returns c = entries_are_covered
