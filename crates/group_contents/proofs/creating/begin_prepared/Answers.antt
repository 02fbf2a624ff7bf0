use Rattle.std.proofs.Common.{inr}
use Rattle.file_extents.proofs.group_engine.Causes.{calls_keep}
use Rattle.file_extents.proofs.Chains.{takes_on}
use Rattle.group_contents.proofs.Steps.{homes_next}
use Rattle.group_contents.proofs.creating.begin_prepared.Goals as goal

pub give_homes-requires-clause-takes : goal.give_homes-requires-clause-takes
give_homes-requires-clause-takes g c = takes_on c.in-Ok.ensures.goes.keeps

pub returns-in-Ok-clause-keeps : goal.returns-in-Ok-clause-keeps
returns-in-Ok-clause-keeps g c = calls_keep c.in-Ok.ensures.goes.keeps c.give_homes.ensures.keeps

pub returns-in-Ok-clause-cause : goal.returns-in-Ok-clause-cause
returns-in-Ok-clause-cause g c =
    homes_next c.args.filling.now.extents c.in-Ok.ensures.goes.keeps c.in-Ok.ensures.goes.mounted c.in-Ok.ensures.begins c.give_homes.new.m (g.B.Bay.state c.give_homes.new.bay)
    c.give_homes.result c.give_homes.ensures.cause

pub returns-in-Err-clause-cause : goal.returns-in-Err-clause-cause
returns-in-Err-clause-cause g c = inr c.in-Err.ensures.goes.cause
