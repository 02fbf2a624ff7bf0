use Rattle.asm_formats.proofs.Framing.{claims_by_slot}
use Rattle.asm_formats.proofs.frames.claims_by_slot.Goals as goal

pub returns : goal.returns
returns c = claims_by_slot
