use Rattle.asm_images.proofs.Bridges.{slot_change}
use Rattle.asm_images.proofs.images.slot_change_is_written.Goals as goal

pub returns : goal.returns
returns c = slot_change
