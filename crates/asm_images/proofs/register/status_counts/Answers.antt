use Rattle.asm_images.proofs.History.{status_counts}
use Rattle.asm_images.proofs.register.status_counts.Goals as goal

pub returns : goal.returns
returns c = status_counts
