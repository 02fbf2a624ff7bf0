use Rattle.std.proofs.Common.{refl, ◌∙◌, ◌++◌, ◌+◌, ◌-◌, arith, inl, inr, [], ◌∷◌, drop, take}
use Rattle.std.proofs.lemmas.List.{append-nil}
use Rattle.std.proofs.lemmas.Result.{err_from_is_err_and}
use Rattle.script.specs.Scanning.{place_of_state}
use Rattle.asm_world.specs.Run.{Resting}
use Rattle.serving.proofs.Chains.{acts-none, acts-then}
use Rattle.serving.proofs.Pieces.{begins-none, within-rest, fresh-stands, shown-stands, ended-step, gap-step, gap-none, at-rest, at-commands, at-paths}
use Rattle.serving.proofs.program.Program.answer_ended.Goals as goal

pub loop-span-init : goal.loop-span-init
loop-span-init g c = ([], omega arith, c.requires.stands, begins-none _ _, λ w below time knows. (w, below, time, knows, acts-none _ _ _), omega arith, refl, c.requires.ready)

pub loop-span-preserved : goal.loop-span-preserved
loop-span-preserved g c =
    let i = c.loop-span.invariant in
    let done = c.loop-span.done in
    let span = c.in-Some.span in (
      i.0 ++ take (done + span.at + span.len - (done + span.at)) (drop (done + span.at) c.deref-in-Some.result.now) ∷ [],
      within-rest _ c.deref.result.now done span.at span.len c.deref.ensures.value i.1 c.in-Some.ensures.within,
      fresh-stands _ _ c.in-Some.ensures.fresh,
      ended-step _ _ c.next.new.self.from _ c.deref.result.now c.deref-in-Some.result.now done span.at span.len (done + span.at) (done + span.at + span.len) i.0
          c.deref.ensures.value c.deref-in-Some.ensures.value refl refl c.in-Some.ensures.fresh.0 i.3 c.in-Some.ensures.found,
      λ w below time knows.
          let b = i.4 w below time knows in
          let r = c.in_ok-run_command.ensures.runs b.0 b.1 b.2 b.3 in
          (r.w', r.below', r.time', r.knows, acts-then _ _ _ _ _ _ _ _ b.4 (at-paths _ _ _ _ _ _ _ i.6 (at-commands _ _ _ _ _ _ _ r.part (at-rest _ _ _ _ _ _ _ _ _ _ _ _ _ _ _ _ r.rests r.acts)))),
      omega (arith, i.5, c.run_command.ensures.cause.later),
      c.run_command.ensures.paths ∙ i.6,
      c.run_command.ensures.ready,
    )

pub returns-in_err-run_command-clause-answers : goal.returns-in_err-run_command-clause-answers
returns-in_err-run_command-clause-answers g c =
    let p = err_from_is_err_and c.from_residual.result c.from_residual.ensures.1 in
    let i = c.loop-span.invariant in
    let done = c.loop-span.done in
    let span = c.in-Some.span in
    rw p.1 (λ w below time knows.
    let b = i.4 w below time knows in
    let r = c.in_err-run_command.ensures.runs b.0 b.1 b.2 b.3 in
    elim r.part [
      | inl none ↦ record {
        w' = r.w';
        below' = r.below';
        phase = r.phase;
        time' = r.time';
        commands = i.0;
        left = drop done c.args.pending.now.items;
        place = place_of_state c.loop-span.cutter.from;
        knows = r.knows;
        rests = tt;
        begins = i.3;
        there = tt;
        acts = at-commands _ _ _ _ _ _ _ (append-nil i.0) (acts-then _ _ _ _ _ _ _ _ b.4 (at-paths _ _ _ _ _ _ _ i.6 (at-commands _ _ _ _ _ _ _ none r.acts)));
      }
      | inr one ↦ record {
        w' = r.w';
        below' = r.below';
        phase = r.phase;
        time' = r.time';
        commands = i.0 ++ take (done + span.at + span.len - (done + span.at)) (drop (done + span.at) c.deref-in-Some.result.now) ∷ [];
        left = drop (done + span.at + span.len) c.args.pending.now.items;
        place = place_of_state c.next.new.self.from;
        knows = r.knows;
        rests = tt;
        begins = ended-step _ _ c.next.new.self.from _ c.deref.result.now c.deref-in-Some.result.now done span.at span.len (done + span.at) (done + span.at + span.len) i.0
            c.deref.ensures.value c.deref-in-Some.ensures.value refl refl c.in-Some.ensures.fresh.0 i.3 c.in-Some.ensures.found;
        there = tt;
        acts = acts-then _ _ _ _ _ _ _ _ b.4 (at-paths _ _ _ _ _ _ _ i.6 (at-commands _ _ _ _ _ _ _ one r.acts));
      }
    ])

pub returns-clause-answers : goal.returns-clause-answers
returns-clause-answers g c =
    let i = c.loop-span.invariant in
    λ w below time knows.
    let b = i.4 w below time knows in record {
      w' = b.0;
      below' = b.1;
      phase = Resting;
      time' = b.2;
      commands = i.0;
      left = c.remove_front.new.bytes.items;
      place = place_of_state c.without_gap.result.from;
      knows = b.3;
      rests = refl;
      begins = gap-step _ _ c.loop-span.cutter.from c.next.new.self.from _ _ c.loop-span.done c.next.new.self.start i.0 c.in_default.ensures.from c.remove_front.ensures i.3 (c.without_gap.ensures.same _ (shown-stands _ c.deref.result.now c.loop-span.done c.next.new.self c.deref.ensures.value c.in_default.ensures.stands));
      there = (refl, refl);
      acts = b.4;
    }

pub returns-clause-none : goal.returns-clause-none
returns-clause-none g c =
    gap-none _ c.loop-span.cutter.from c.next.new.self.from c.args.pending.now.items c.deref.result.now _ c.loop-span.done c.next.new.self.start c.in_default.ensures.from c.deref.ensures.value c.remove_front.ensures (c.without_gap.ensures.same _ (shown-stands _ c.deref.result.now c.loop-span.done c.next.new.self c.deref.ensures.value c.in_default.ensures.stands)) c.in_default.ensures.none

pub run_command-requires : goal.run_command-requires
run_command-requires g c = record { ready = c.loop-span.invariant.7 }

pub returns-clause-ready : goal.returns-clause-ready
returns-clause-ready g c = c.loop-span.invariant.7
