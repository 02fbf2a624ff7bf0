use Rattle.group_engine.proofs.Endings.{ends_begin, ends_on}
use Rattle.group_engine.proofs.mounted.Mounted.end_operation.Goals as goal

pub returns-in-Ok-clause-ends : goal.returns-in-Ok-clause-ends
returns-in-Ok-clause-ends g c = ends_on c.end_record.result c.in-Ok.ensures c.end_record.ensures.ends

pub returns-in_default-clause-ends : goal.returns-in_default-clause-ends
returns-in_default-clause-ends g c = ends_begin c.args.self.now (g.B.Bay.state c.args.bay.now) c.requires.mounted c.requires.whole c.requires.ready
