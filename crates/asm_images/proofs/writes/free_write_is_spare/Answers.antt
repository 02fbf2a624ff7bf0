use Rattle.asm_images.proofs.UserWrites.{free_write_is_spare}
use Rattle.asm_images.proofs.writes.free_write_is_spare.Goals as goal

pub returns : goal.returns
returns c = free_write_is_spare
