use Rattle.asm_images.proofs.Bridges.{range_change}
use Rattle.asm_images.proofs.images.range_change_is_written.Goals as goal

pub returns : goal.returns
returns c = range_change
