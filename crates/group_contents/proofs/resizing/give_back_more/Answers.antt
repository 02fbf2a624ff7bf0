use Rattle.file_extents.proofs.group_engine.Causes.{calls_keep}
use Rattle.file_extents.proofs.Chains.{takes_on}
use Rattle.group_contents.proofs.Steps.{homes_given_back, homes_lacked}
use Rattle.group_contents.proofs.resizing.give_back_more.Goals as goal

pub give_back-requires : goal.give_back-requires
give_back-requires g c = record { takes = takes_on c.give_homes.ensures.keeps }

pub returns-in-Ok-clause-keeps : goal.returns-in-Ok-clause-keeps
returns-in-Ok-clause-keeps g c = calls_keep c.give_homes.ensures.keeps c.give_back.ensures.keeps

pub returns-in-Ok-clause-cause : goal.returns-in-Ok-clause-cause
returns-in-Ok-clause-cause g c =
    homes_given_back c.give_back.new.m (g.B.Bay.state c.give_back.new.bay) c.args.filling.now.extents c.args.disk c.give_back.result c.requires.mounted c.give_homes.ensures.keeps c.in-Ok.ensures.mounted c.give_back.ensures.cause

pub returns-in-Err-clause-cause : goal.returns-in-Err-clause-cause
returns-in-Err-clause-cause g c =
    homes_lacked c.args.m.now c.args.filling.now.extents c.args.disk c.give_homes.new.m (g.B.Bay.state c.args.bay.now) (g.B.Bay.state c.give_homes.new.bay) c.in-Err.refusal c.requires.mounted
    c.requires.takes c.in-Err.ensures.cause
