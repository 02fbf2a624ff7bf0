use Rattle.asm_images.proofs.Sharing.{move_follows}
use Rattle.asm_images.proofs.register.move_follows.Goals as goal

pub returns : goal.returns
returns c = move_follows
