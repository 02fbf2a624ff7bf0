use Rattle.asm_images.proofs.MirroredRows.{mirrored_is_one_of_two}
use Rattle.asm_images.proofs.rows.mirrored_is_one_of_two.Goals as goal

pub returns : goal.returns
returns c = mirrored_is_one_of_two
