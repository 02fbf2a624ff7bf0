use Rattle.std.proofs.Common.{ℕ, subst}
use Rattle.file_extents.proofs.group_engine.Causes.{calls_keep}
use Rattle.file_extents.specs.Filling.{PutCause}
use Rattle.file_extents.proofs.Chains.{takes_on}
use Rattle.group_contents.proofs.Chains.{puts_write}
use Rattle.group_contents.proofs.Steps.{named_before, status_write_next}
use Rattle.group_contents.proofs.creating.fill_new.Goals as goal

pub finish_new-requires : goal.finish_new-requires
finish_new-requires g c = record { takes = takes_on c.in-Ok.ensures.keeps }

pub returns-in-Ok-clause-keeps : goal.returns-in-Ok-clause-keeps
returns-in-Ok-clause-keeps g c = calls_keep c.in-Ok.ensures.keeps c.finish_new.ensures.keeps

pub returns-in-Ok-clause-cause : goal.returns-in-Ok-clause-cause
returns-in-Ok-clause-cause g c = status_write_next c.in-Ok.ensures.keeps c.in-Ok.ensures.mounted c.finish_new.new.m (g.B.Bay.state c.finish_new.new.bay) c.finish_new.result c.finish_new.ensures.cause

pub returns-in-Ok-clause-named : goal.returns-in-Ok-clause-named
returns-in-Ok-clause-named g c = named_before c.put_zeros.new.m c.args.new.now c.finish_new.new.m c.finish_new.result c.finish_new.ensures.named

pub returns-in-Err-clause-cause : goal.returns-in-Err-clause-cause
returns-in-Err-clause-cause g c =
    let s = g.B.Bay.state c.args.bay.now in
    let t = g.B.Bay.state c.put_zeros.new.bay in
    puts_write c.args.m.now c.put_zeros.new.m s t c.in-Err.refusal
    (subst (λ (x : ℕ). PutCause c.args.m.now x c.put_zeros.new.m s t c.in-Err.refusal) c.requires.fresh c.in-Err.ensures.cause)
