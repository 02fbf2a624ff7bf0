use Rattle.std.proofs.Common.{◌≡◌, ◌+◌, drop}
use Rattle.asmcmd.specs.Runs.{equal_front}
use Rattle.asmcmd.proofs.runs.equal_bytes.Given as goal

abbrev pub invariant-loop-i : goal.invariant-loop-i
invariant-loop-i l = l.i + equal_front l.byte (drop l.i l.bytes) ≡ equal_front l.byte l.bytes
