use Rattle.asm_images.proofs.Outsiders.{other_header_is_elsewhere}
use Rattle.asm_images.proofs.others.other_header_is_elsewhere.Goals as goal

pub returns : goal.returns
returns c = other_header_is_elsewhere
