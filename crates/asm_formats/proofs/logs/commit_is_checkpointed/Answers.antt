use Rattle.asm_formats.proofs.Checkpoints.{commit_is_checkpointed}
use Rattle.asm_formats.proofs.logs.commit_is_checkpointed.Goals as goal

pub returns : goal.returns
returns c = commit_is_checkpointed
