use Rattle.std.proofs.Common.{rules}
use Rattle.bay.proofs.OneCall.{reworded}
use Rattle.body_slot.proofs.Steps.{may_open, opens}
use Rattle.body_slot.proofs.gate.open_gate.Goals as goal

pub returns : goal.returns
returns g c = reworded (may_open c.requires) (opens c.requires) (search rules) c.write_gate.ensures
