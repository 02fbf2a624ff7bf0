use Rattle.asm_images.proofs.PutKeeps.{user_write_keeps_metadata}
use Rattle.asm_images.proofs.puts.user_write_keeps_metadata.Goals as goal

pub returns : goal.returns
returns c = user_write_keeps_metadata
