use Rattle.asm_images.proofs.Describing.{standing_stands}
use Rattle.asm_images.proofs.meaning.standing_stands.Goals as goal

pub returns : goal.returns
returns c = standing_stands
