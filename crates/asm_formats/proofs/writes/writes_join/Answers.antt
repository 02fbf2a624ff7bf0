use Rattle.asm_formats.proofs.Writings.{writes_join}
use Rattle.asm_formats.proofs.writes.writes_join.Goals as goal

pub returns : goal.returns
returns c = writes_join
