use Rattle.asm_placement.proofs.Apart.{homes_are_apart}
use Rattle.asm_placement.proofs.homes.homes_are_apart.Goals as goal

pub returns : goal.returns
returns c = homes_are_apart
