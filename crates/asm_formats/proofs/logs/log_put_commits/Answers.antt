use Rattle.asm_formats.proofs.Checkpoints.{log_put_commits}
use Rattle.asm_formats.proofs.logs.log_put_commits.Goals as goal

pub returns : goal.returns
returns c = log_put_commits
