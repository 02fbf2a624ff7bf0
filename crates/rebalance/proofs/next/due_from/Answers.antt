use Rattle.rebalance.proofs.Passing.{due_none, due_some, first_is_clear}
use Rattle.rebalance.proofs.next.due_from.Goals as goal

pub returns-in_err-first-clause-first : goal.returns-in_err-first-clause-first
returns-in_err-first-clause-first c =
    due_none c.args.stage c.args.search.now.disks.now c.args.search.now.catalog.now c.args.search.now.shares c.requires.tables c.args.place c.from_residual.result (cc) (cc) c.requires.clear

pub returns-clause-first : goal.returns-clause-first
returns-clause-first c =
    due_some c.args.stage c.args.search.now.disks.now c.args.search.now.catalog.now c.args.search.now.shares c.requires.tables c.args.place c.first_due.result c.in_ok-first.first (cc) c.requires.clear c.first_due.ensures.due

pub returns-clause-clear : goal.returns-clause-clear
returns-clause-clear c =
    first_is_clear c.args.stage c.args.search.now.disks.now c.args.search.now.catalog.now c.args.search.now.shares c.requires.tables c.first_due.result
    (due_some c.args.stage c.args.search.now.disks.now c.args.search.now.catalog.now c.args.search.now.shares c.requires.tables c.args.place c.first_due.result c.in_ok-first.first (cc) c.requires.clear c.first_due.ensures.due)
