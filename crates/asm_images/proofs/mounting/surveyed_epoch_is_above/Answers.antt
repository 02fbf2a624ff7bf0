use Rattle.asm_images.proofs.Mounts.{surveyed_epoch_is_above}
use Rattle.asm_images.proofs.mounting.surveyed_epoch_is_above.Goals as goal

pub returns : goal.returns
returns c = surveyed_epoch_is_above
