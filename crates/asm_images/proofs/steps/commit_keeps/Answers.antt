use Rattle.asm_images.proofs.Committing.{commit_keeps}
use Rattle.asm_images.proofs.steps.commit_keeps.Goals as goal

pub returns : goal.returns
returns c = commit_keeps
