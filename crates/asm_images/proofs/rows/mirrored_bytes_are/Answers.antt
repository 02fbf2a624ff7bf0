use Rattle.asm_images.proofs.MirroredRows.{mirrored_bytes_are}
use Rattle.asm_images.proofs.rows.mirrored_bytes_are.Goals as goal

pub returns : goal.returns
returns c = mirrored_bytes_are
