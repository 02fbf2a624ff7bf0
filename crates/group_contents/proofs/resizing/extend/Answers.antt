use Rattle.std.proofs.Common.{inr}
use Rattle.file_extents.proofs.group_engine.Causes.{calls_keep}
use Rattle.file_extents.proofs.Chains.{takes_on}
use Rattle.group_contents.proofs.Chains.{status_writes}
use Rattle.group_contents.proofs.Steps.{begun_later}
use Rattle.group_contents.proofs.resizing.extend.Goals as goal

pub extend_begun-requires-clause-takes : goal.extend_begun-requires-clause-takes
extend_begun-requires-clause-takes g c = takes_on c.in-Ok.ensures.goes.keeps

pub returns-in-Ok-clause-keeps : goal.returns-in-Ok-clause-keeps
returns-in-Ok-clause-keeps g c = calls_keep c.in-Ok.ensures.goes.keeps c.extend_begun.ensures.keeps

pub returns-in-Ok-clause-cause : goal.returns-in-Ok-clause-cause
returns-in-Ok-clause-cause g c =
    begun_later c.args.filling.now.extents c.in-Ok.ensures.goes.keeps c.in-Ok.ensures.goes.mounted c.extend_begun.new.m (g.B.Bay.state c.extend_begun.new.bay) c.in-Ok.ensures.begins
    c.extend_begun.result c.extend_begun.ensures.cause

pub returns-in-Err-clause-cause : goal.returns-in-Err-clause-cause
returns-in-Err-clause-cause g c =
    inr (status_writes c.args.m.now c.begin_operation.new.m (g.B.Bay.state c.args.bay.now) (g.B.Bay.state c.begin_operation.new.bay) c.in-Err.refusal c.in-Err.ensures.goes.cause)
