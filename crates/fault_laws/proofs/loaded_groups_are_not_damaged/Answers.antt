use Rattle.fault_laws.proofs.Damage.{not_damaged}
use Rattle.fault_laws.proofs.loaded_groups_are_not_damaged.Goals as goal

pub returns : goal.returns
returns g c = not_damaged (g.B.Bay.state c.args.bay.now)
