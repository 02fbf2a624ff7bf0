use Rattle.asm_formats.proofs.Framing.{statuses_by_slot}
use Rattle.asm_formats.proofs.frames.statuses_by_slot.Goals as goal

pub returns : goal.returns
returns c = statuses_by_slot
