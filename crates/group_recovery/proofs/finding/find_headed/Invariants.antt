use Rattle.std.proofs.Common.{◌≤◌, ◌<◌, ◌*◌, ℕ, length}
use Rattle.disk_images.specs.Looks.{Looks}
use Rattle.group_recovery.specs.Finding.{AreAllHeaded, AreThere}
use Rattle.group_recovery.proofs.finding.find_headed.Given as goal

abbrev pub invariant-loop-slot : goal.invariant-loop-slot
invariant-loop-slot g l = record {
  looks : Looks (λ (s : ℕ). s < l.slot) (4 * l.slot) (g.B.Bay.state l.fn.bay) (g.B.Bay.state l.bay);
  few : length l.found.items ≤ l.slot;
  there : AreThere l.slot l.found.items (g.B.Bay.state l.bay);
  all : AreAllHeaded l.slot l.found.items (g.B.Bay.state l.fn.bay) (g.B.Bay.state l.bay);
}
