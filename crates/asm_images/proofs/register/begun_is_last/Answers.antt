use Rattle.asm_images.proofs.OneContent.{begun_is_last}
use Rattle.asm_images.proofs.register.begun_is_last.Goals as goal

pub returns : goal.returns
returns c = begun_is_last
