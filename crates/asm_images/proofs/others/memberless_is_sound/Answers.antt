use Rattle.asm_images.proofs.Outsiders.{memberless_is_sound}
use Rattle.asm_images.proofs.others.memberless_is_sound.Goals as goal

pub returns : goal.returns
returns c = memberless_is_sound
