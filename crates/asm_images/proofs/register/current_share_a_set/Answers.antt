use Rattle.asm_images.proofs.Sharing.{current_share}
use Rattle.asm_images.proofs.register.current_share_a_set.Goals as goal

pub returns : goal.returns
returns c = current_share
