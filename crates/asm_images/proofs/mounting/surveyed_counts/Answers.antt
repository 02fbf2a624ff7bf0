use Rattle.asm_images.proofs.History.{surveyed_counts}
use Rattle.asm_images.proofs.mounting.surveyed_counts.Goals as goal

pub returns : goal.returns
returns c = surveyed_counts
