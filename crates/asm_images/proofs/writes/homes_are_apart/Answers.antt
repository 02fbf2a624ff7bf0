use Rattle.asm_images.proofs.UserWrites.{homes_are_apart}
use Rattle.asm_images.proofs.writes.homes_are_apart.Goals as goal

pub returns : goal.returns
returns c = homes_are_apart
