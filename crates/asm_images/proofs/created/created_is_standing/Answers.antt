use Rattle.asm_images.proofs.Creation.{created_is_standing}
use Rattle.asm_images.proofs.created.created_is_standing.Goals as goal

pub returns : goal.returns
returns c = created_is_standing
