use Rattle.asm_images.proofs.MirroredRows.{mirrored_is_described}
use Rattle.asm_images.proofs.rows.mirrored_is_described.Goals as goal

pub returns : goal.returns
returns c = mirrored_is_described
