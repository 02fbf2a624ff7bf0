use Rattle.sample_group.proofs.moving.make.Goals as goal

pub returns-in_err-ready-clause-units : goal.returns-in_err-ready-clause-units
returns-in_err-ready-clause-units c entries has = rw (c.ready.ensures.shape, c.ready.ensures.tables, c.ready.ensures.units) has

pub returns-clause-units : goal.returns-clause-units
returns-clause-units c entries has = c.apply.ensures.units entries (rw (c.ready.ensures.shape, c.ready.ensures.tables, c.ready.ensures.units) has)
