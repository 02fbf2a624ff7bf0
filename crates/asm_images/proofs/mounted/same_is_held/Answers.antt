use Rattle.asm_images.proofs.Held.{same_is_held}
use Rattle.asm_images.proofs.mounted.same_is_held.Goals as goal

pub returns : goal.returns
returns c = same_is_held
