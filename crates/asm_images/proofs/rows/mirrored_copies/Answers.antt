use Rattle.asm_images.proofs.MirroredRows.{mirrored_copies}
use Rattle.asm_images.proofs.rows.mirrored_copies.Goals as goal

pub returns : goal.returns
returns c = mirrored_copies
