use Rattle.std.proofs.Common.{arith}
use Rattle.extent_map.proofs.Values.{chunk_is_read}
use Rattle.extent_map.proofs.reading.chunk_in.Goals as goal

pub returns : goal.returns
returns c = chunk_is_read c.args.file c.args.chunk (omega arith) c.requires.number c.args.bytes.now c.in_ok-read.read c.in_ok-read.ensures
