use Rattle.asm_images.proofs.Mounts.{renumbered_is_covered}
use Rattle.asm_images.proofs.mounting.renumbered_is_covered.Goals as goal

pub returns : goal.returns
returns c = renumbered_is_covered
