use Rattle.resync.proofs.group_engine.Endings.{goes_on}
use Rattle.resync.proofs.file_extents.Chains.{takes_on}
use Rattle.relocation.proofs.steps.move_tables.Goals as goal

pub put_record-requires-clause-takes : goal.put_record-requires-clause-takes
put_record-requires-clause-takes g c = takes_on c.announce.ensures.keeps

pub put_record-requires-clause-mounted : goal.put_record-requires-clause-mounted
put_record-requires-clause-mounted g c = c.in-Ok.ensures.mounted

pub returns-in-Ok : goal.returns-in-Ok
returns-in-Ok g c = goes_on c.put_record.result c.announce.ensures.keeps c.in-Ok.ensures.mounted c.put_record.ensures
