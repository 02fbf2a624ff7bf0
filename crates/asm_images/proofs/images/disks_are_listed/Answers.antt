use Rattle.asm_images.proofs.Bridges.{disks_are_listed}
use Rattle.asm_images.proofs.images.disks_are_listed.Goals as goal

pub returns : goal.returns
returns c = disks_are_listed
