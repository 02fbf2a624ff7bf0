use Rattle.asm_formats.proofs.Checkpoints.{open_logs_decode}
use Rattle.asm_formats.proofs.logs.open_logs_decode.Goals as goal

pub returns : goal.returns
returns c = open_logs_decode
