use Rattle.asm_images.proofs.UserBytes.{metadata_write_keeps_copies}
use Rattle.asm_images.proofs.puts.metadata_write_keeps_copies.Goals as goal

pub returns : goal.returns
returns c = metadata_write_keeps_copies
