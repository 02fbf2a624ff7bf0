use Rattle.extent_map.proofs.table.ExtentMap.insert.Goals as goal

pub returns-in-Ok-clause-at : goal.returns-in-Ok-clause-at
returns-in-Ok-clause-at c = rw (← c.self.view_is) c.in-Ok.ensures.updates.0
