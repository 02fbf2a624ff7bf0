use Rattle.asm_formats.proofs.LogPuts.{log_read, log_decoded}
use Rattle.asm_formats.proofs.logs.log_is_read.Goals as goal

pub returns : goal.returns
returns c = λ d bytes k log small ok holds. (log_read d bytes k log small ok holds, log_decoded d bytes k log small ok holds)
