use Rattle.resync.proofs.group_engine.Members.{lets_join}
use Rattle.relocation.specs.Slices.{SliceCause}
use Rattle.resync.proofs.Chains.{on_err}
use Rattle.relocation.proofs.Chains.{lets_takes, nothing_lets, slice_on}
use Rattle.relocation.proofs.slicing.do_steps.Goals as goal

pub loop-done-init : goal.loop-done-init
loop-done-init g c = record { mounted = c.requires.mounted; lets = nothing_lets c.args.m.now (g.B.Bay.state c.args.bay.now) c.requires.takes }

pub step-requires-clause-takes : goal.step-requires-clause-takes
step-requires-clause-takes g c = lets_takes c.loop-done.invariant.lets

pub loop-done-preserved : goal.loop-done-preserved
loop-done-preserved g c = record { mounted = c.in-Ok-None.ensures.mounted; lets = lets_join c.loop-done.invariant.lets c.step.ensures.lets }

pub returns-in-Ok-Some-clause-lets : goal.returns-in-Ok-Some-clause-lets
returns-in-Ok-Some-clause-lets g c = lets_join c.loop-done.invariant.lets c.step.ensures.lets

pub returns-in-Err-clause-lets : goal.returns-in-Err-clause-lets
returns-in-Err-clause-lets g c = lets_join c.loop-done.invariant.lets c.step.ensures.lets

pub returns-in-Err-clause-cause : goal.returns-in-Err-clause-cause
returns-in-Err-clause-cause g c =
    slice_on c.loop-done.invariant.lets c.loop-done.invariant.mounted c.step.new.m (g.B.Bay.state c.step.new.bay) c.in-Err.refusal c.in-Err.ensures.cause

pub last-requires-clause-takes : goal.last-requires-clause-takes
last-requires-clause-takes g c = lets_takes c.loop-done.invariant.lets

pub returns-clause-lets : goal.returns-clause-lets
returns-clause-lets g c = lets_join c.loop-done.invariant.lets c.last.ensures.lets

pub returns-clause-cause : goal.returns-clause-cause
returns-clause-cause g c =
    let b = c.loop-done.m in
    let m = c.last.new.m in
    let t = g.B.Bay.state c.loop-done.bay in
    let u = g.B.Bay.state c.last.new.bay in
    on_err (SliceCause b m t u) (SliceCause c.args.m.now m (g.B.Bay.state c.args.bay.now) u) c.last.result (slice_on c.loop-done.invariant.lets c.loop-done.invariant.mounted m u) c.last.ensures.cause
