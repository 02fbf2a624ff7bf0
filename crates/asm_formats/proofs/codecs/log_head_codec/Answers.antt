use Rattle.asm_formats.proofs.Bodies.{log_head_codec}
use Rattle.asm_formats.proofs.codecs.log_head_codec.Goals as goal

pub returns : goal.returns
returns c = log_head_codec
