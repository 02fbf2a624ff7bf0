use Rattle.file_extents.proofs.group_engine.Causes.{calls_keep}
use Rattle.file_extents.proofs.Chains.{takes_on}
use Rattle.group_contents.proofs.Steps.{begin_creates, create_next}
use Rattle.group_contents.proofs.creating.create_by.Goals as goal

pub fill_new-answer-requires-clause-takes : goal.fill_new-answer-requires-clause-takes
fill_new-answer-requires-clause-takes g c = takes_on c.in-Ok.ensures.keeps

pub returns-in-Ok-clause-keeps : goal.returns-in-Ok-clause-keeps
returns-in-Ok-clause-keeps g c = calls_keep c.in-Ok.ensures.keeps c.fill_new-answer.ensures.keeps

pub returns-in-Ok-clause-cause : goal.returns-in-Ok-clause-cause
returns-in-Ok-clause-cause g c =
    create_next c.args.new.now c.in-Ok.ensures.keeps c.in-Ok.ensures.mounted c.fill_new-answer.new.m (g.B.Bay.state c.fill_new-answer.new.bay) c.fill_new-answer.result c.fill_new-answer.ensures.cause

pub returns-in-Ok-clause-named : goal.returns-in-Ok-clause-named
returns-in-Ok-clause-named g c = c.fill_new-answer.ensures.named

pub returns-in-Err-clause-cause : goal.returns-in-Err-clause-cause
returns-in-Err-clause-cause g c =
    begin_creates c.args.m.now c.args.new.now c.begin_new.new.m (g.B.Bay.state c.args.bay.now) (g.B.Bay.state c.begin_new.new.bay) c.in-Err.refusal c.in-Err.ensures.cause
