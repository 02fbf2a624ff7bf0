use Rattle.std.proofs.Common.{◌≡◌, ◌-◌, length}
use Rattle.script.specs.Scanning.{IsCutterOf}
use Rattle.script.proofs.cutter.Cutter.scan.Given as goal

abbrev pub invariant-loop-cutter : goal.invariant-loop-cutter
invariant-loop-cutter l = IsCutterOf l.bytes l.cutter × (l.cutter.from ≡ l.fn.self.from)

abbrev pub decreases-loop-cutter : goal.decreases-loop-cutter
decreases-loop-cutter l = length l.bytes - l.cutter.at
