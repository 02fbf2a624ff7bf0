use Rattle.extent_map.proofs.ChangeLaws.{removed_keeps_chunks}
use Rattle.extent_map.proofs.table.ExtentMap.remove_record.Goals as goal

pub returns-clause-chunks : goal.returns-clause-chunks
returns-clause-chunks c = removed_keeps_chunks c.args.self.now c.take_away.new.self (c.args.file, c.args.chunk) c.take_away.ensures.after
