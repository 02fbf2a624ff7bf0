use Rattle.asm_images.proofs.MirroredRows.{mirrored_rules}
use Rattle.asm_images.proofs.rows.mirrored_rules.Goals as goal

pub returns : goal.returns
returns c = mirrored_rules
