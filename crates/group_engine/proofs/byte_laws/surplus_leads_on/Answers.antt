use Rattle.group_engine.proofs.Surplus.{surplus_leads_on}
use Rattle.group_engine.proofs.byte_laws.surplus_leads_on.Goals as goal

pub returns : goal.returns
returns g c = surplus_leads_on (g.B.Bay.state c.args.bay.now)
