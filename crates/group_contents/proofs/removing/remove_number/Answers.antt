use Rattle.file_extents.proofs.group_engine.Causes.{calls_keep}
use Rattle.group_contents.proofs.Steps.{ok_with, status_next}
use Rattle.group_contents.proofs.removing.remove_number.Goals as goal

pub end_pending-requires-clause-whole : goal.end_pending-requires-clause-whole
end_pending-requires-clause-whole g c = c.in-Ok.ensures.goes.keeps.whole

pub end_pending-requires-clause-ready : goal.end_pending-requires-clause-ready
end_pending-requires-clause-ready g c = c.in-Ok.ensures.goes.keeps.ready

pub returns-in-Ok-clause-keeps : goal.returns-in-Ok-clause-keeps
returns-in-Ok-clause-keeps g c = calls_keep c.in-Ok.ensures.goes.keeps c.end_pending.ensures.keeps

pub returns-in-Ok-clause-cause : goal.returns-in-Ok-clause-cause
returns-in-Ok-clause-cause g c = status_next c.in-Ok.ensures.goes.keeps c.in-Ok.ensures.goes.mounted c.end_pending.new.self (g.B.Bay.state c.end_pending.new.bay) c.end_pending.result c.end_pending.ensures.cause

pub returns-in-Ok-clause-removed : goal.returns-in-Ok-clause-removed
returns-in-Ok-clause-removed g c = ok_with c.end_pending.result (c.unname.new.m, c.in-Ok.ensures.removed)
