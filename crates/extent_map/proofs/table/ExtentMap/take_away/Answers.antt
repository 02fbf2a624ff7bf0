use Rattle.extent_map.proofs.ChangeLaws.{record_gone}
use Rattle.extent_map.proofs.table.ExtentMap.take_away.Goals as goal

pub returns-clause-gone : goal.returns-clause-gone
returns-clause-gone c = record_gone c.args.self.now c.remove.new.self.entries c.args.at (rw (← c.self.view_is) c.remove.ensures.updates.0)
