use Rattle.asm_formats.proofs.Checkpoints.{last_close}
use Rattle.asm_formats.proofs.logs.last_close_loses_content.Goals as goal

pub returns : goal.returns
returns c = λ h old new k other is pair shut p. last_close h old new k other is pair p shut
