use Rattle.std.proofs.Common.{arith, ◌/◌, length}
use Rattle.asmcmd.proofs.EqualPieces.{goes_on}
use Rattle.asmcmd.proofs.runs.equal_pieces.Goals as goal

pub loop-i-preserved : goal.loop-i-preserved
loop-i-preserved c =
    goes_on 64 (length c.args.bytes.now / 64) c.loop-i.i c.args.byte c.args.bytes.now _ c.as_chunks.result.0.now c.as_chunks.ensures.front (omega arith) (c.holds_only.ensures c.if-not-holds_only.false) c.loop-i.invariant
