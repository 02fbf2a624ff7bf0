use Rattle.std.proofs.Common.{refl, ap, ◌||◌, true, false}
use Rattle.asm_world.specs.Run.{phase_after, mounted_groups, reply_in}
use Rattle.serving.specs.Manners.{reply_style}
use Rattle.disk_commands.specs.session.Views.{reply_view, found_view}
use Rattle.disk_commands.proofs.session.Below.{still_below}
use Rattle.serving.proofs.Chains.{acts-cut}
use Rattle.serving.proofs.Moves.{none_expires, acts-answers, effect-printed, mark-whole, mark-cut, pushed}
use Rattle.serving.proofs.program.Program.answer.Goals as goal

pub returns-in-Err-clause-answers : goal.returns-in-Err-clause-answers
returns-in-Err-clause-answers g c = λ w below time knows.
    let done = c.run_text-answer.ensures.answers.served w below knows in
    let reply = reply_view c.tell_reply-reply.result.0 in
    let text = reply_in (reply_style c.args.self.now.manner) reply in
    let cut = rw c.in-Err.is at c.tell_reply-reply.ensures.bytes in record {
      w' = done.0;
      phase = phase_after reply done.0;
      below' = done.1;
      knows = done.2;
      rests = tt;
      acts = acts-answers _ _ false (found_view c.run_text-answer.result.found) c.args.text.now reply cut.0 w done.0 below done.1 time _ _ _ _ _ _ _ _ _ _ _ _ _ (none_expires w below (still_below knows) (mounted_groups w.session))
          (effect-printed _ _ _ (reply_view c.run_text-answer.result.reply) reply _ _ _ _ w done.0 c.tell_reply-reply.ensures.reply done.3) cut.4
          (mark-cut cut.0 text cut.1 c.args.self.now.marks.items (g.B.Bay.state c.run_text-answer.new.desk.bay).calls cut.2 cut.3)
          (ap (λ b. c.args.self.now.refused || b) c.is_refusal.ensures) c.after_reply-self.ensures (cut.1, cut.2);
    }

pub returns-then-is_no_memory-clause-answers : goal.returns-then-is_no_memory-clause-answers
returns-then-is_no_memory-clause-answers g c = λ w below time knows.
    let done = c.run_text-answer.ensures.answers.served w below knows in
    let reply = reply_view c.tell_reply-reply.result.0 in
    let text = reply_in (reply_style c.args.self.now.manner) reply in
    let whole = rw c.in-Ok.is at c.tell_reply-reply.ensures.bytes in
    let marked = pushed c.args.self.now.marks.items c.push.new.self.items c.calls-mark.result (g.B.Bay.state c.run_text-answer.new.desk.bay).calls c.push.result
    c.push.ensures.items (c.push.ensures.succeeds c.requires.room) c.calls-mark.ensures in record {
      w' = done.0;
      phase = phase_after reply done.0;
      below' = done.1;
      knows = done.2;
      rests = tt;
      acts = acts-cut _ _ _ _ _ (acts-answers _ _ true (found_view c.run_text-answer.result.found) c.args.text.now reply text w done.0 below done.1 time _ _ _ _ _ _ _ _ _ _ _ _ _ (none_expires w below (still_below knows) (mounted_groups w.session))
          (effect-printed _ _ _ (reply_view c.run_text-answer.result.reply) reply _ _ _ _ w done.0 c.tell_reply-reply.ensures.reply done.3) whole
          (mark-whole text c.args.self.now.marks.items c.push.new.self.items (g.B.Bay.state c.run_text-answer.new.desk.bay).calls marked)
          (ap (λ b. c.args.self.now.refused || b) c.is_refusal.ensures) c.after_reply-self.ensures refl);
    }

pub returns-clause-answers : goal.returns-clause-answers
returns-clause-answers g c = λ w below time knows.
    let done = c.run_text-answer.ensures.answers.served w below knows in
    let reply = reply_view c.tell_reply-reply.result.0 in
    let text = reply_in (reply_style c.args.self.now.manner) reply in
    let whole = rw c.in-Ok.is at c.tell_reply-reply.ensures.bytes in
    let marked = pushed c.args.self.now.marks.items c.push.new.self.items c.calls-mark.result (g.B.Bay.state c.run_text-answer.new.desk.bay).calls c.push.result
    c.push.ensures.items (c.push.ensures.succeeds c.requires.room) c.calls-mark.ensures in record {
      w' = done.0;
      phase = phase_after reply done.0;
      below' = done.1;
      knows = done.2;
      rests = c.if-is_no_memory.ensures done.0;
      acts = acts-answers _ _ true (found_view c.run_text-answer.result.found) c.args.text.now reply text w done.0 below done.1 time _ _ _ _ _ _ _ _ _ _ _ _ _ (none_expires w below (still_below knows) (mounted_groups w.session))
          (effect-printed _ _ _ (reply_view c.run_text-answer.result.reply) reply _ _ _ _ w done.0 c.tell_reply-reply.ensures.reply done.3) whole
          (mark-whole text c.args.self.now.marks.items c.push.new.self.items (g.B.Bay.state c.run_text-answer.new.desk.bay).calls marked)
          (ap (λ b. c.args.self.now.refused || b) c.is_refusal.ensures) c.after_reply-self.ensures refl;
    }
