use Rattle.asm_images.proofs.Sharing.{enough_meet}
use Rattle.asm_images.proofs.register.enough_meet.Goals as goal

pub returns : goal.returns
returns c = enough_meet
