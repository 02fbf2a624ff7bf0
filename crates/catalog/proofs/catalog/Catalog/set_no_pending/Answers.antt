use Rattle.catalog.proofs.PlanLaws.{ended_planned}
use Rattle.catalog.proofs.catalog.Catalog.set_no_pending.Goals as goal

pub returns : goal.returns
returns c =
    ended_planned c.args.self.now c.in_ok-change.change.put c.in_ok-change.change.gone c.keeps_rules.ensures c.in_ok-change.ensures.put c.in_ok-change.ensures.gone
