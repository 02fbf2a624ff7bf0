use Rattle.page_map.proofs.Adding.{put_back}
use Rattle.page_map.proofs.table.insert_both.Goals as goal

pub returns-in-Err-clause-places : goal.returns-in-Err-clause-places
returns-in-Err-clause-places c = λ absent. put_back c.args.places.now.entries c.insert.new.self.entries c.remove.new.self.entries c.args.key c.args.page absent c.in-Ok.ensures.updates.0 c.remove.ensures.updates.0
