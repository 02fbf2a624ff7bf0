use Rattle.asm_images.proofs.CreatedBytes.{created_bytes_are}
use Rattle.asm_images.proofs.created.created_bytes_are.Goals as goal

pub returns : goal.returns
returns c = created_bytes_are
