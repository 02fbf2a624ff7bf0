use Rattle.file_extents.proofs.group_engine.Endings.{goes_on}
use Rattle.disk_joining.proofs.Takings.{goes_takes}
use Rattle.disk_joining.proofs.adding.enter.Goals as goal

pub put_entries-requires : goal.put_entries-requires
put_entries-requires g c = record { takes = goes_takes c.put_rebalance.ensures.goes }

pub returns-in-Ok-clause-goes : goal.returns-in-Ok-clause-goes
returns-in-Ok-clause-goes g c = goes_on c.put_entries.result c.in-Ok.ensures.goes.keeps c.in-Ok.ensures.goes.mounted c.put_entries.ensures.goes
