use Rattle.asm_formats.proofs.Framing.{short_header}
use Rattle.asm_formats.proofs.frames.short_image_has_no_header.Goals as goal

pub returns : goal.returns
returns c = short_header
