use Rattle.asm_images.proofs.PutKeeps.{record_put_keeps}
use Rattle.asm_images.proofs.puts.record_put_keeps.Goals as goal

pub returns : goal.returns
returns c = record_put_keeps
