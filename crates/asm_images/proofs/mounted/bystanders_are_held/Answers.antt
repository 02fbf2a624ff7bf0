use Rattle.asm_images.proofs.Held.{bystanders_are_held}
use Rattle.asm_images.proofs.mounted.bystanders_are_held.Goals as goal

pub returns : goal.returns
returns c = bystanders_are_held
