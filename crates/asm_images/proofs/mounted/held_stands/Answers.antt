use Rattle.asm_images.proofs.Held.{held_stands}
use Rattle.asm_images.proofs.mounted.held_stands.Goals as goal

pub returns : goal.returns
returns c = held_stands
