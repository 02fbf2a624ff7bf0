use Rattle.asm_formats.proofs.Writings.{blocks_are_stored}
use Rattle.asm_formats.proofs.writes.blocks_are_stored.Goals as goal

pub returns : goal.returns
returns c = blocks_are_stored
