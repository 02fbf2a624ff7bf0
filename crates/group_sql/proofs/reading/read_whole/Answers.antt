use Rattle.group_sql.specs.Said.{statement_said}
use Rattle.group_sql.proofs.Exact.{ended_ok}
use Rattle.group_sql.proofs.reading.read_whole.Goals as goal

pub returns-in-Ok : goal.returns-in-Ok
returns-in-Ok c =
    let p = c.ended.new.place in
    ended_ok c.args.text.now (statement_said c.in-Ok.statement) p.rest.now p.left c.in-Ok.ensures
