use Rattle.asm_formats.proofs.Framing.{metadata_same}
use Rattle.asm_formats.proofs.frames.spare_write_keeps_metadata.Goals as goal

pub returns : goal.returns
returns c = λ old new at n same spare. metadata_same old new at n same spare
