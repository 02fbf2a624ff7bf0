use Rattle.asm_formats.proofs.Damaging.{whole_copy_decodes}
use Rattle.asm_formats.proofs.damage.whole_copy_decodes.Goals as goal

pub returns : goal.returns
returns c = whole_copy_decodes
