use Rattle.table_tests.proofs.catalogs.making.make.Goals as goal

pub ready-requires : goal.ready-requires
ready-requires c = (c.requires.tables, record { after = c.requires.plan.after; rules = c.requires.plan.rules; units = c.requires.plan.units })
