use Rattle.asm_images.proofs.UserWrites.{copy_write_is_piece}
use Rattle.asm_images.proofs.writes.copy_write_is_piece.Goals as goal

pub returns : goal.returns
returns c = copy_write_is_piece
