use Rattle.asm_formats.proofs.Checkpoints.{checkpoint_keeps}
use Rattle.asm_formats.proofs.logs.checkpoint_keeps_metadata.Goals as goal

pub returns : goal.returns
returns c = checkpoint_keeps
