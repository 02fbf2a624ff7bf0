use Rattle.asm_images.proofs.OneContent.{found_is_held}
use Rattle.asm_images.proofs.contents.found_is_held.Goals as goal

pub returns : goal.returns
returns c = found_is_held
