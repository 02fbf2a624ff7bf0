use Rattle.asm_images.proofs.Held.{complete_stands}
use Rattle.asm_images.proofs.mounted.complete_stands.Goals as goal

pub returns : goal.returns
returns c = complete_stands
