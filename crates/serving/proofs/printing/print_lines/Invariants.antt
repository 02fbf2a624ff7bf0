use Rattle.std.proofs.Common.{◌≡◌, ℕ, ◌≤◌, List, ◌++◌, drop}
use Rattle.std.specs.Io.KnownBytes.{Appends}
use Rattle.asm_world.specs.Text.{ended}
use Rattle.serving.proofs.printing.print_lines.Given as goal

abbrev pub invariant-loop-line : goal.invariant-loop-line
invariant-loop-line g l =
    (sent : List ℕ) × Appends (g.K.Sink.taken l.fn.sink) (g.K.Sink.taken l.sink) sent
    × (ended l.lines ++ l.last ≡ sent ++ (ended (drop l.line-index l.lines) ++ l.last))
    × (g.K.Sink.faults l.fn.sink ≤ g.K.Sink.faults l.sink)
