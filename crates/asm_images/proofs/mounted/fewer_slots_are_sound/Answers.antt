use Rattle.asm_images.proofs.Slots.{fewer_slots_are_sound}
use Rattle.asm_images.proofs.mounted.fewer_slots_are_sound.Goals as goal

pub returns : goal.returns
returns c = fewer_slots_are_sound
