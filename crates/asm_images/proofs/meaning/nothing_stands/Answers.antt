use Rattle.asm_images.proofs.Describing.{nothing_stands}
use Rattle.asm_images.proofs.meaning.nothing_stands.Goals as goal

pub returns : goal.returns
returns c = nothing_stands
