use Rattle.catalog.proofs.PlanLaws.{no_power_planned}
use Rattle.catalog.proofs.catalog.Catalog.set_no_power.Goals as goal

pub returns : goal.returns
returns c =
    no_power_planned c.args.self.now c.in_ok-change.change.put c.in_ok-change.change.gone c.keeps_rules.ensures c.in_ok-change.ensures.put c.in_ok-change.ensures.gone
