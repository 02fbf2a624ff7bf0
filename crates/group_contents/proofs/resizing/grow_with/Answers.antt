use Rattle.std.proofs.Common.{inl}
use Rattle.file_extents.proofs.Chains.{kept}
use Rattle.group_contents.proofs.Steps.{grows}
use Rattle.group_contents.proofs.resizing.grow_with.Goals as goal

pub returns-in-Ok-clause-keeps : goal.returns-in-Ok-clause-keeps
returns-in-Ok-clause-keeps g c = c.grow_by-answer.ensures.keeps

pub returns-in-Ok-clause-cause : goal.returns-in-Ok-clause-cause
returns-in-Ok-clause-cause g c =
    grows c.args.m.now c.args.growth.now.file c.in-Ok.filling.extents c.grow_by-answer.new.m (g.B.Bay.state c.args.bay.now) (g.B.Bay.state c.grow_by-answer.new.bay) c.grow_by-answer.result
    c.in-Ok.ensures.extents c.grow_by-answer.ensures.cause

pub returns-in-Ok-clause-sized : goal.returns-in-Ok-clause-sized
returns-in-Ok-clause-sized g c = c.grow_by-answer.ensures.sized

pub returns-in-Err-clause-keeps : goal.returns-in-Err-clause-keeps
returns-in-Err-clause-keeps g c = kept c.args.m.now (g.B.Bay.state c.args.bay.now) c.requires.takes

pub returns-in-Err-clause-cause : goal.returns-in-Err-clause-cause
returns-in-Err-clause-cause g c = inl c.in-Err.ensures.cause
