use Rattle.std.proofs.Common.{inl, inr}
use Rattle.std.specs.Prelude.{◌⊎◌}
use Rattle.std.proofs.lemmas.Result.{err_from_is_err_and}
use Rattle.refusal_lines.specs.declared.refusal.Refusal.{Refusal}
use Rattle.record_laws.specs.group_engine.Commits.{StatusCause}
use Rattle.disk_modes.specs.declared.sizes.Asked.{Asked}
use Rattle.disk_modes.specs.Causes.{AreLargeEnough, ResizeRefused}
use Rattle.disk_modes.specs.Sizes.{ResizesDisks}
use Rattle.disk_modes.proofs.Checked.{on_both}
use Rattle.disk_modes.proofs.Held.{held_here}
use Rattle.disk_modes.proofs.Sized.{large_fit}
use Rattle.disk_modes.proofs.Steps.{kept, on_err, shut_cause}
use Rattle.disk_modes.proofs.resizing.resize_disks.Goals as goal

pub returns-in_err-takes_calls-clause-keeps : goal.returns-in_err-takes_calls-clause-keeps
returns-in_err-takes_calls-clause-keeps g c = kept c.args.m.now (g.B.Bay.state c.args.bay.now) c.requires.takes

pub returns-in_err-takes_calls-clause-cause : goal.returns-in_err-takes_calls-clause-cause
returns-in_err-takes_calls-clause-cause g c =
    let f = err_from_is_err_and c.from_residual.result c.from_residual.ensures.1 in
    rw (f.1, f.2) (inr (shut_cause c.args.m.now (g.B.Bay.state c.args.bay.now) c.in_err-takes_calls.field-0.0 c.in_err-takes_calls.ensures.cause))

pub returns-in-Ok-clause-cause : goal.returns-in-Ok-clause-cause
returns-in-Ok-clause-cause g c =
    let s = g.B.Bay.state c.args.bay.now in
    let t = g.B.Bay.state c.resize.new.bay in
    on_err (StatusCause c.args.m.now c.resize.new.m s t) (λ (refusal : Refusal). ResizeRefused c.args.m.now (record { disks = c.args.disks; size = c.args.size }) refusal ⊎ StatusCause c.args.m.now c.resize.new.m s t refusal) c.resize.result (λ refusal why. inr why) c.resize.ensures.goes.cause

pub returns-in-Err-clause-keeps : goal.returns-in-Err-clause-keeps
returns-in-Err-clause-keeps g c = kept c.args.m.now (g.B.Bay.state c.args.bay.now) c.requires.takes

pub returns-in-Err-clause-cause : goal.returns-in-Err-clause-cause
returns-in-Err-clause-cause g c = inl c.in-Err.ensures.cause

pub returns-in_err-takes_calls-clause-held : goal.returns-in_err-takes_calls-clause-held
returns-in_err-takes_calls-clause-held g c = held_here c.args.m.now (g.B.Bay.state c.args.bay.now)

pub returns-in-Err-clause-held : goal.returns-in-Err-clause-held
returns-in-Err-clause-held g c = held_here c.args.m.now (g.B.Bay.state c.args.bay.now)

pub returns-in-Ok-clause-held : goal.returns-in-Ok-clause-held
returns-in-Ok-clause-held g c = c.resize.ensures.held (large_fit (record { disks = c.args.disks; size = c.args.size }) c.args.m.now c.in-Ok.ensures.large)

pub returns-in-Ok-clause-large : goal.returns-in-Ok-clause-large
returns-in-Ok-clause-large g c =
    let asked : Asked = record { disks = c.args.disks; size = c.args.size } in
    on_both (AreLargeEnough c.args.m.now asked) (ResizesDisks c.args.disks c.args.size c.args.power c.args.m.now c.resize.new.m) (AreLargeEnough c.args.m.now asked) c.resize.result (λ large done. large) c.in-Ok.ensures.large c.resize.ensures.done
