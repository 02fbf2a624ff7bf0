use Rattle.partnership.proofs.Rows.{chosen_used}
use Rattle.partnership.proofs.row.choose_next.Goals as goal

pub returns-clause-used : goal.returns-clause-used
returns-clause-used c =
    chosen_used c.args.n c.args.disks.now c.args.units.now c.use_homes-all_are_free.new.units c.args.copies c.in_ok-homes.homes c.use_homes-all_are_free.result c.requires.order c.in_ok-homes.ensures.chosen c.use_homes-all_are_free.ensures
