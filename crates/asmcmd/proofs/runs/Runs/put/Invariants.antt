use Rattle.std.proofs.Common.{◌≡◌, ◌+◌, ◌++◌, length}
use Rattle.asm_group.specs.Names.{Bytes}
use Rattle.asmcmd.specs.Runs.{lines_with}
use Rattle.asmcmd.proofs.runs.Runs.put.Given as goal

abbrev pub invariant-loop-byte : goal.invariant-loop-byte
invariant-loop-byte l = ((more : Bytes) → lines_with l.self (l.rest ++ more) ≡ lines_with l.initial.self (l.bytes ++ more)) × (l.self.end + length l.rest ≡ l.initial.self.end + length l.bytes)

abbrev pub decreases-loop-byte : goal.decreases-loop-byte
decreases-loop-byte l = length l.rest
