use Rattle.asm_formats.proofs.Writings.{write_widens}
use Rattle.asm_formats.proofs.writes.write_widens.Goals as goal

pub returns : goal.returns
returns c = write_widens
