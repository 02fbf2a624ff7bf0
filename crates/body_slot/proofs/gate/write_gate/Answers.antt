use Rattle.std.proofs.Common.{rules, ◌∙◌, arith, length-take, get_or-take}
use Rattle.bay.proofs.OneCall.{reworded}
use Rattle.body_slot.proofs.Steps.{has_sector, gate_changes, sets_gate}
use Rattle.body_slot.proofs.gate.write_gate.Goals as goal

pub returns : goal.returns
returns g c = reworded (gate_changes c.requires (simp length-take (omega arith)))
    (λ x y. sets_gate c.requires c.args.first _ x y (simp length-take (omega arith)) (get_or-take _ _ _ _ (has_sector c.requires) ∙ c.gate_sector-sector.ensures)) (search rules) c.write_synced.ensures
