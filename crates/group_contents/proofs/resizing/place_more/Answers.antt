use Rattle.file_extents.proofs.group_engine.Causes.{calls_keep}
use Rattle.file_extents.proofs.Chains.{takes_on}
use Rattle.group_contents.proofs.Steps.{lacks_later, writes_later}
use Rattle.group_contents.proofs.resizing.place_more.Goals as goal

pub put_more-requires-clause-takes : goal.put_more-requires-clause-takes
put_more-requires-clause-takes g c = takes_on c.in-Ok.ensures.keeps

pub returns-in-Ok-clause-keeps : goal.returns-in-Ok-clause-keeps
returns-in-Ok-clause-keeps g c = calls_keep c.in-Ok.ensures.keeps c.put_more.ensures.keeps

pub returns-in-Ok-clause-cause : goal.returns-in-Ok-clause-cause
returns-in-Ok-clause-cause g c =
    writes_later c.args.filling.now.extents c.in-Ok.ensures.keeps c.in-Ok.ensures.mounted c.put_more.new.m (g.B.Bay.state c.put_more.new.bay) c.put_more.result c.put_more.ensures.cause

pub returns-in-Err-clause-cause : goal.returns-in-Err-clause-cause
returns-in-Err-clause-cause g c =
    lacks_later c.args.m.now c.args.filling.now.extents c.give_homes.new.m (g.B.Bay.state c.args.bay.now) (g.B.Bay.state c.give_homes.new.bay) c.in-Err.refusal c.requires.mounted
    c.requires.takes c.in-Err.ensures.cause
