use Rattle.asm_formats.proofs.Checkpoints.{close_keeps}
use Rattle.asm_formats.proofs.logs.close_keeps_metadata.Goals as goal

pub returns : goal.returns
returns c = λ h old new k other is may p. close_keeps h old new k other is may.pair p may
