use Rattle.std.proofs.Common.{ℕ, subst}
use Rattle.file_extents.proofs.group_engine.Causes.{calls_keep}
use Rattle.file_extents.specs.Filling.{PutCause}
use Rattle.file_extents.proofs.Chains.{takes_on}
use Rattle.group_contents.proofs.Chains.{puts_write}
use Rattle.group_contents.proofs.Steps.{on_ok, status_write_next}
use Rattle.group_contents.proofs.resizing.put_more.Goals as goal

pub size_or_shut-requires-clause-takes : goal.size_or_shut-requires-clause-takes
size_or_shut-requires-clause-takes g c = takes_on c.in-Ok.ensures.keeps

pub returns-in-Ok-clause-keeps : goal.returns-in-Ok-clause-keeps
returns-in-Ok-clause-keeps g c = calls_keep c.in-Ok.ensures.keeps c.size_or_shut.ensures.goes.keeps

pub returns-in-Ok-clause-cause : goal.returns-in-Ok-clause-cause
returns-in-Ok-clause-cause g c = status_write_next c.in-Ok.ensures.keeps c.in-Ok.ensures.mounted c.size_or_shut.new.m (g.B.Bay.state c.size_or_shut.new.bay) c.size_or_shut.result c.size_or_shut.ensures.goes.cause

pub returns-in-Ok-clause-sized : goal.returns-in-Ok-clause-sized
returns-in-Ok-clause-sized g c = on_ok c.size_or_shut.result (λ is. (c.put_zeros.new.m, is)) c.size_or_shut.ensures.sized

pub returns-in-Err-clause-cause : goal.returns-in-Err-clause-cause
returns-in-Err-clause-cause g c =
    let s = g.B.Bay.state c.args.bay.now in
    let t = g.B.Bay.state c.put_zeros.new.bay in
    puts_write c.args.m.now c.put_zeros.new.m s t c.in-Err.refusal
    (subst (λ (x : ℕ). PutCause c.args.m.now x c.put_zeros.new.m s t c.in-Err.refusal) c.requires.fresh c.in-Err.ensures.cause)
