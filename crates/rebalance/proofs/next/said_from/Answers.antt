use Rattle.rebalance.proofs.Passing.{said_none, said_some}
use Rattle.rebalance.proofs.next.said_from.Goals as goal

pub returns-in_err-first : goal.returns-in_err-first
returns-in_err-first c =
    said_none c.args.stage c.args.search.now.disks.now c.args.search.now.catalog.now c.args.search.now.shares c.requires.tables c.args.place c.from_residual.result (cc) (cc) c.requires.clear

pub returns : goal.returns
returns c =
    said_some c.args.stage c.args.search.now.disks.now c.args.search.now.catalog.now c.args.search.now.shares c.requires.tables c.args.place c.in_ok-first.first c.first_said.result (cc) c.requires.clear c.first_said.ensures.said
