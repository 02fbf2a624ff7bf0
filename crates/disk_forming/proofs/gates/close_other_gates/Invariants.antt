use Rattle.std.proofs.Common.{◌*◌}
use Rattle.bay.specs.Calls.{Went, cost}
use Rattle.bay.specs.Image.{ChangesOnly}
use Rattle.disk_forming.specs.Gates.{GatesOf, ShutsGates}
use Rattle.disk_forming.proofs.gates.close_other_gates.Given as goal

abbrev pub invariant-loop-gate : goal.invariant-loop-gate
invariant-loop-gate g l = Went l.slot (ChangesOnly (GatesOf l.slot l.sector l.gate-items)) (ShutsGates l.slot l.sector l.gate-index l.gate-items)
    (cost (4 * l.gate-index) (l.gate-index * l.sector)) (g.B.Bay.state l.fn.bay) (g.B.Bay.state l.bay)
