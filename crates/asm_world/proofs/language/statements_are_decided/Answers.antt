use Rattle.std.proofs.Common.{refl}
use Rattle.asm_world.proofs.language.statements_are_decided.Goals as goal

pub returns : goal.returns
returns c = refl
