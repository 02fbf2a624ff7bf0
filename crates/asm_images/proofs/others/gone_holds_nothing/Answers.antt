use Rattle.asm_images.proofs.Outsiders.{gone_holds_nothing}
use Rattle.asm_images.proofs.others.gone_holds_nothing.Goals as goal

pub returns : goal.returns
returns c = gone_holds_nothing
