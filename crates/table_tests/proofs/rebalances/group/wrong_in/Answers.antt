use Rattle.table_tests.proofs.rebalances.group.wrong_in.Goals as goal

pub loop-place-init : goal.loop-place-init
loop-place-init c = record { status = c.requires; cursor = c.start-cursor.ensures c.args.catalog.now c.args.status.now }
