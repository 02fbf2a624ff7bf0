use Rattle.asm_images.proofs.Zeros.{zeros_are_sound}
use Rattle.asm_images.proofs.meaning.zeros_are_sound.Goals as goal

pub returns : goal.returns
returns c = zeros_are_sound
