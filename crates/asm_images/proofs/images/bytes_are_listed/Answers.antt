use Rattle.asm_images.proofs.Bridges.{bytes_are_listed}
use Rattle.asm_images.proofs.images.bytes_are_listed.Goals as goal

pub returns : goal.returns
returns c = bytes_are_listed
