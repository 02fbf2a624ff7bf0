use Rattle.std.proofs.Common.{Result, subst}
use Rattle.std.specs.Prelude.{IfErr, IfOk, OnOk}
use Rattle.refusal_lines.specs.declared.refusal.Refusal.{Refusal}
use Rattle.resync.specs.group_engine.Mounts.{IsMounted}
use Rattle.resync.proofs.group_engine.Members.{lets_join}
use Rattle.relocation.specs.Shortfalls.{EndCause}
use Rattle.relocation.specs.Slices.{SliceCause}
use Rattle.relocation.specs.declared.asking.Slice.{Slice}
use Rattle.relocation.proofs.Chains.{lets_takes, nothing_lets, slice_on}
use Rattle.relocation.proofs.slicing.run_slices.Goals as goal

pub returns-then-power-eq0-clause-lets : goal.returns-then-power-eq0-clause-lets
returns-then-power-eq0-clause-lets g c = nothing_lets c.args.m.now (g.B.Bay.state c.args.bay.now) c.requires.takes

pub loop-init : goal.loop-init
loop-init g c = record { mounted = c.requires.mounted; lets = nothing_lets c.args.m.now (g.B.Bay.state c.args.bay.now) c.requires.takes }

pub slice-answer-requires : goal.slice-answer-requires
slice-answer-requires g c = record { takes = lets_takes c.loop.invariant.lets }

pub returns-in-Ok : goal.returns-in-Ok
returns-in-Ok g c = record {
  lets = lets_join c.loop.invariant.lets c.slice-answer.ensures.lets;
  mounted = subst (λ (r : Result Slice Refusal). OnOk r (IsMounted c.slice-answer.new.m)) c.in-Ok.is c.slice-answer.ensures.mounted;
  cause = tt;
  ends = subst (λ (r : Result Slice Refusal). IfOk r (EndCause c.slice-answer.new.m)) c.in-Ok.is c.slice-answer.ensures.ends;
}

pub returns-in-Err-clause-lets : goal.returns-in-Err-clause-lets
returns-in-Err-clause-lets g c = lets_join c.loop.invariant.lets c.slice-answer.ensures.lets

pub returns-in-Err-clause-cause : goal.returns-in-Err-clause-cause
returns-in-Err-clause-cause g c =
    let m = c.slice-answer.new.m in
    let u = g.B.Bay.state c.slice-answer.new.bay in
    slice_on c.loop.invariant.lets c.loop.invariant.mounted m u c.in-Err.refusal
    (subst (λ (r : Result Slice Refusal). IfErr r (SliceCause c.loop.m m (g.B.Bay.state c.loop.bay) u)) c.in-Err.is c.slice-answer.ensures.cause)

pub loop-preserved : goal.loop-preserved
loop-preserved g c = record {
  mounted = subst (λ (r : Result Slice Refusal). OnOk r (IsMounted c.slice-answer.new.m)) c.in-Ok-More.is c.slice-answer.ensures.mounted;
  lets = lets_join c.loop.invariant.lets c.slice-answer.ensures.lets;
}

pub returns-clause-lets : goal.returns-clause-lets
returns-clause-lets g c = c.loop.invariant.lets
