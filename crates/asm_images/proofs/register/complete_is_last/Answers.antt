use Rattle.asm_images.proofs.OneContent.{complete_is_last}
use Rattle.asm_images.proofs.register.complete_is_last.Goals as goal

pub returns : goal.returns
returns c = complete_is_last
