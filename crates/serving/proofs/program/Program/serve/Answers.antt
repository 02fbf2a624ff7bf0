use Rattle.std.proofs.Common.{refl, ◌∙◌, ◌++◌, arith, []}
use Rattle.std.proofs.lemmas.Result.{err_from_is_err_and}
use Rattle.asm_world.specs.Run.{Resting}
use Rattle.serving.proofs.Chains.{acts-none, acts-then}
use Rattle.serving.proofs.Pieces.{at-rest, at-paths}
use Rattle.serving.proofs.Serving.{taken-none, stops-reading, stops-answering, goes-on, ends, piece-at, rests-output, rests-result}
use Rattle.serving.proofs.program.Program.serve.Goals as goal

pub loop-pending-init : goal.loop-pending-init
loop-pending-init g c = (
  c.new-cutter.ensures.stands _,
  omega arith,
  λ w below time knows. (w, below, time, [], [], knows, taken-none _ _ _ c.new-cutter.ensures.fresh.0 c.new-pending.ensures.items, acts-none _ _ _),
  omega arith,
  omega arith,
  refl,
  c.requires.ready,
)

pub returns-in_err-count-clause-serves : goal.returns-in_err-count-clause-serves
returns-in_err-count-clause-serves g c =
    let p = err_from_is_err_and c.from_residual.result c.from_residual.ensures.1 in
    let i = c.loop-pending.invariant in
    let r = c.in_err-count.ensures.taken in
    rw (p.1, p.2) (λ w below time knows.
    let b = i.2 w below time knows in
    record { w' = b.0; below' = b.1; phase = Resting; time' = b.2; knows = b.5; rests = λ _. refl; serves = stops-reading _ _ _ _ _ _ _ _ _ _ _ _ _ _ _ b.6 b.7 r.1 r.2 })

pub returns-in_err-answer_ended-clause-serves : goal.returns-in_err-answer_ended-clause-serves
returns-in_err-answer_ended-clause-serves g c =
    let p = err_from_is_err_and c.from_residual-in_err-answer_ended.result c.from_residual-in_err-answer_ended.ensures.1 in
    let i = c.loop-pending.invariant in
    let r = c.in_ok-count.ensures.taken in
    rw (p.1, p.2) (λ w below time knows.
    let b = i.2 w below time knows in
    let a = c.in_err-answer_ended.ensures.answers b.0 b.1 b.2 b.5 in record {
      w' = a.w';
      below' = a.below';
      phase = a.phase;
      time' = a.time';
      knows = a.knows;
      rests = rests-output _ _ _ _ c.in_err-answer_ended.ensures.cause.failed;
      serves = stops-answering _ _ _ _ _ _ _ _ _ _ _ _ _ _ _ _ _ _ _ _ _ _ b.6 b.7 r.1 r.2 a.begins (at-paths _ _ _ _ _ _ _ i.5 a.acts) c.in_err-answer_ended.ensures.cause.failed;
    })

pub loop-pending-preserved : goal.loop-pending-preserved
loop-pending-preserved g c =
    let i = c.loop-pending.invariant in
    let r = c.in_ok-count.ensures.taken in (
      c.in_ok-answer_ended.ensures.stands,
      omega (arith, i.1, r.2.2),
      λ w below time knows.
          let b = i.2 w below time knows in
          let a = c.in_ok-answer_ended.ensures.answers b.0 b.1 b.2 b.5 in (
            a.w',
            a.below',
            a.time',
            b.3 ++ r.0,
            b.4 ++ a.commands,
            a.knows,
            goes-on _ _ _ _ _ _ _ _ _ _ _ _ _ _ _ _ b.6 r.1 r.2 a.begins a.there.0 a.there.1 c.in_ok-answer_ended.ensures.none,
            acts-then _ _ _ _ _ _ _ _ b.7 (at-paths _ _ _ _ _ _ _ i.5 (at-rest _ _ _ _ _ _ _ _ _ _ _ _ _ _ _ _ a.rests a.acts)),
          ),
      omega (arith, i.3, c.read_more.ensures.cause.later),
      omega (arith, i.4, c.answer_ended.ensures.cause.later),
      c.answer_ended.ensures.paths ∙ i.5,
      c.answer_ended.ensures.ready,
    )

pub returns-clause-serves : goal.returns-clause-serves
returns-clause-serves g c =
    let i = c.loop-pending.invariant in
    let r = c.in_ok-count.ensures.taken in
    λ w below time knows.
    let b = i.2 w below time knows in
    let a = c.answer_last.ensures.answers b.0 b.1 b.2 b.5 in record {
      w' = a.w';
      below' = a.below';
      phase = a.phase;
      time' = a.time';
      knows = a.knows;
      rests = rests-result _ _ _ _ a.rests c.answer_last.ensures.cause.failed;
      serves = ends _ _ _ _ _ _ _ _ _ _ _ _ _ _ _ c.deref.result.now _ _ _ _ b.6 b.7 r.1 (piece-at _ _ _ _ _ _ _ _ c.if-count-eq0.true c.deref.ensures.value r.2) a.last a.all (at-paths _ _ _ _ _ _ _ i.5 a.acts) c.answer_last.ensures.cause.failed;
    }

pub returns-in_err-count-clause-ready : goal.returns-in_err-count-clause-ready
returns-in_err-count-clause-ready g c = c.loop-pending.invariant.6

pub answer_ended-requires-clause-ready : goal.answer_ended-requires-clause-ready
answer_ended-requires-clause-ready g c = c.loop-pending.invariant.6

pub answer_last-requires-clause-ready : goal.answer_last-requires-clause-ready
answer_last-requires-clause-ready g c = c.loop-pending.invariant.6
