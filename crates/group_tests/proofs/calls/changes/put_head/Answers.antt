use Rattle.std.proofs.Common.{sym}
use Rattle.group_tests.proofs.Commits.{puts_one}
use Rattle.group_tests.proofs.calls.changes.put_head.Goals as goal

pub returns-in-Ok-put_none-clause-none : goal.returns-in-Ok-put_none-clause-none
returns-in-Ok-put_none-clause-none c =
    puts_one c.args.catalog.now.tables c.args.change.now.put _ c.args.change.now.gone _ c.args.file c.args.head.now c.in-Ok.entry c.requires.none
    c.if-not-is_new.ensures (sym c.if-not-is_allowed.ensures) c.in-Ok.ensures c.in-Ok-put_none.ensures.put c.in-Ok-put_none.ensures.gone
