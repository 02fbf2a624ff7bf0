use Rattle.std.proofs.Common.{inl, inr, sym, ◌∙◌, arith}
use Rattle.std.proofs.lemmas.Result.{err_from_is_err_and}
use Rattle.file_extents.proofs.Chains.{kept}
use Rattle.group_contents.proofs.Chains.{shut_writes}
use Rattle.group_contents.proofs.Steps.{cuts, growth_refused, grows_to, shrinking_refused, stays_sized}
use Rattle.group_contents.proofs.resizing.resize.Goals as goal

pub returns-in_err-takes_calls-clause-keeps : goal.returns-in_err-takes_calls-clause-keeps
returns-in_err-takes_calls-clause-keeps g c = kept c.args.m.now (g.B.Bay.state c.args.bay.now) c.requires.takes

pub returns-in_err-takes_calls-clause-cause : goal.returns-in_err-takes_calls-clause-cause
returns-in_err-takes_calls-clause-cause g c =
    let f = err_from_is_err_and c.from_residual.result c.from_residual.ensures.1 in
    rw (f.1, f.2) (inr (shut_writes c.args.m.now (g.B.Bay.state c.args.bay.now) c.in_err-takes_calls.field-0.0 c.in_err-takes_calls.ensures.cause))

pub returns-in-Err-clause-keeps : goal.returns-in-Err-clause-keeps
returns-in-Err-clause-keeps g c = kept c.args.m.now (g.B.Bay.state c.args.bay.now) c.requires.takes

pub returns-in-Err-clause-cause : goal.returns-in-Err-clause-cause
returns-in-Err-clause-cause g c = inl (inl c.in-Err.ensures.cause)

pub returns-then-not-is_sectors-clause-keeps : goal.returns-then-not-is_sectors-clause-keeps
returns-then-not-is_sectors-clause-keeps g c = kept c.args.m.now (g.B.Bay.state c.args.bay.now) c.requires.takes

pub returns-then-not-is_sectors-clause-cause : goal.returns-then-not-is_sectors-clause-cause
returns-then-not-is_sectors-clause-cause g c = inl (inr (c.in-Ok.file, c.in-Ok.ensures.opened, inl (sym c.is_sectors.ensures ∙ c.if-not-is_sectors.true)))

pub returns-then-size-file-clause-keeps : goal.returns-then-size-file-clause-keeps
returns-then-size-file-clause-keeps g c = kept c.args.m.now (g.B.Bay.state c.args.bay.now) c.requires.takes

pub returns-then-size-file-clause-sized : goal.returns-then-size-file-clause-sized
returns-then-size-file-clause-sized g c = stays_sized c.args.m.now c.args.path.now.parts c.args.size c.in-Ok.file c.in-Ok.ensures.opened c.if-size-file.true

pub returns-then-size-file-2-clause-cause : goal.returns-then-size-file-2-clause-cause
returns-then-size-file-2-clause-cause g c =
    shrinking_refused c.args.m.now c.args.path.now.parts c.args.size c.shrink.new.m (g.B.Bay.state c.args.bay.now) (g.B.Bay.state c.shrink.new.bay) c.shrink.result c.shrink.ensures.cause

pub returns-then-size-file-2-clause-sized : goal.returns-then-size-file-2-clause-sized
returns-then-size-file-2-clause-sized g c =
    cuts c.args.m.now c.args.path.now.parts c.args.size c.shrink.new.m c.in-Ok.file c.shrink.result c.in-Ok.ensures.opened c.if-size-file-2.true c.shrink.ensures.sized

pub returns-else-size-file-2-clause-cause : goal.returns-else-size-file-2-clause-cause
returns-else-size-file-2-clause-cause g c =
    growth_refused c.args.m.now c.args.path.now.parts c.args.size c.grow.new.m (g.B.Bay.state c.args.bay.now) (g.B.Bay.state c.grow.new.bay) c.grow.result c.in-Ok.file c.in-Ok.ensures.opened
    c.grow.ensures.cause

pub returns-else-size-file-2-clause-sized : goal.returns-else-size-file-2-clause-sized
returns-else-size-file-2-clause-sized g c =
    grows_to c.args.m.now c.args.path.now.parts c.args.size c.grow.new.m c.in-Ok.file c.grow.result c.in-Ok.ensures.opened
    (omega (arith, c.if-size-file.false, c.if-size-file-2.false)) c.grow.ensures.sized
