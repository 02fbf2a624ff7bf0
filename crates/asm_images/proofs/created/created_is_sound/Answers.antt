use Rattle.asm_images.proofs.Creation.{created_is_sound}
use Rattle.asm_images.proofs.created.created_is_sound.Goals as goal

pub returns : goal.returns
returns c = created_is_sound
