use Rattle.std.proofs.Common.{refl, sym, ap, ◌∙◌, ◌++◌, ◌+◌, ◌-◌, arith, true, inl, inr, [], ◌∷◌, drop, take}
use Rattle.std.proofs.lemmas.List.{append-nil, take_rest}
use Rattle.std.proofs.lemmas.Result.{err_from_is_err_and}
use Rattle.script.specs.Script.{cut, commands_of}
use Rattle.script.specs.declared.cutter.State.TheVariants.{Gap}
use Rattle.script.specs.Scanning.{place_of_state}
use Rattle.asm_world.specs.Run.{Resting}
use Rattle.serving.proofs.Chains.{acts-none, acts-then}
use Rattle.serving.proofs.Pieces.{within-rest, fresh-stands, last-step, at-rest, at-commands, at-paths}
use Rattle.serving.proofs.program.Program.answer_last.Goals as goal

pub loop-span-init : goal.loop-span-init
loop-span-init g c = ([], omega arith, c.requires.stands, refl, λ w below time knows. (w, below, time, knows, acts-none _ _ _), omega arith, refl, c.requires.ready)

pub loop-span-preserved : goal.loop-span-preserved
loop-span-preserved g c =
    let i = c.loop-span.invariant in
    let done = c.loop-span.done in
    let span = c.in-Some.span in (
      i.0 ++ take (done + span.at + span.len - (done + span.at)) (drop (done + span.at) c.args.pending.now) ∷ [],
      within-rest c.args.pending.now c.args.pending.now done span.at span.len refl i.1 c.in-Some.ensures.within,
      fresh-stands _ _ c.new-cutter.ensures.fresh,
      last-step _ _ c.new-cutter.result.from c.args.pending.now done span.at span.len (done + span.at) (done + span.at + span.len) i.0 refl refl c.new-cutter.ensures.fresh.0 i.3 c.in-Some.ensures.found,
      λ w below time knows.
          let b = i.4 w below time knows in
          let r = c.in_ok-run_command.ensures.runs b.0 b.1 b.2 b.3 in
          (r.w', r.below', r.time', r.knows, acts-then _ _ _ _ _ _ _ _ b.4 (at-paths _ _ _ _ _ _ _ i.6 (at-commands _ _ _ _ _ _ _ r.part (at-rest _ _ _ _ _ _ _ _ _ _ _ _ _ _ _ _ r.rests r.acts)))),
      omega (arith, i.5, c.run_command.ensures.cause.later),
      c.run_command.ensures.paths ∙ i.6,
      c.run_command.ensures.ready,
    )

pub returns-in_err-run_command-clause-answers : goal.returns-in_err-run_command-clause-answers
returns-in_err-run_command-clause-answers g c =
    let p = err_from_is_err_and c.from_residual.result c.from_residual.ensures.1 in
    let i = c.loop-span.invariant in
    let done = c.loop-span.done in
    let span = c.in-Some.span in
    rw p.1 (λ w below time knows.
    let b = i.4 w below time knows in
    let r = c.in_err-run_command.ensures.runs b.0 b.1 b.2 b.3 in
    elim r.part [
      | inl none ↦ record {
        w' = r.w';
        below' = r.below';
        phase = r.phase;
        time' = r.time';
        commands = i.0;
        rest = cut true (place_of_state c.loop-span.cutter.from) (drop done c.args.pending.now);
        knows = r.knows;
        rests = tt;
        last = i.3;
        all = tt;
        acts = at-commands _ _ _ _ _ _ _ (append-nil i.0) (acts-then _ _ _ _ _ _ _ _ b.4 (at-paths _ _ _ _ _ _ _ i.6 (at-commands _ _ _ _ _ _ _ none r.acts)));
      }
      | inr one ↦ record {
        w' = r.w';
        below' = r.below';
        phase = r.phase;
        time' = r.time';
        commands = i.0 ++ take (done + span.at + span.len - (done + span.at)) (drop (done + span.at) c.args.pending.now) ∷ [];
        rest = commands_of (drop (done + span.at + span.len) c.args.pending.now);
        knows = r.knows;
        rests = tt;
        last = last-step _ _ Gap c.args.pending.now done span.at span.len (done + span.at) (done + span.at + span.len) i.0 refl refl refl i.3 c.in-Some.ensures.found;
        all = tt;
        acts = acts-then _ _ _ _ _ _ _ _ b.4 (at-paths _ _ _ _ _ _ _ i.6 (at-commands _ _ _ _ _ _ _ one r.acts));
      }
    ])

pub returns-clause-answers : goal.returns-clause-answers
returns-clause-answers g c =
    let i = c.loop-span.invariant in
    λ w below time knows.
    let b = i.4 w below time knows in record {
      w' = b.0;
      below' = b.1;
      phase = Resting;
      time' = b.2;
      commands = i.0;
      rest = [];
      knows = b.3;
      rests = refl;
      last = i.3 ∙ ap (λ cs. i.0 ++ cs) (ap (cut true (place_of_state c.loop-span.cutter.from)) (sym (take_rest c.args.pending.now c.loop-span.done)) ∙ c.in_default.ensures.none);
      all = refl;
      acts = b.4;
    }

pub run_command-requires : goal.run_command-requires
run_command-requires g c = record { ready = c.loop-span.invariant.7 }

pub returns-clause-ready : goal.returns-clause-ready
returns-clause-ready g c = c.loop-span.invariant.7
