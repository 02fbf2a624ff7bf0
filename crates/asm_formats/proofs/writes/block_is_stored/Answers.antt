use Rattle.asm_formats.proofs.Writings.{block_is_stored}
use Rattle.asm_formats.proofs.writes.block_is_stored.Goals as goal

pub returns : goal.returns
returns c = block_is_stored
