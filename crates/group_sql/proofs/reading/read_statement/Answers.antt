use Rattle.group_sql.proofs.Exact.{only_result}
use Rattle.group_sql.proofs.reading.read_statement.Goals as goal

pub returns-clause-only : goal.returns-clause-only
returns-clause-only c = only_result c.read_whole.result c.args.text.now c.read_whole.ensures
