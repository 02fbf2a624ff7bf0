use Rattle.std.proofs.Common.{◌≡◌, ◌∙◌, ap, subst}
use Rattle.asm_group.specs.Names.{Bytes}
use Rattle.asm_world.specs.Reply.{Moved}
use Rattle.asm_world.specs.Text.{event_text}
use Rattle.event_lines.specs.Said.{rebalanced_said}
use Rattle.group_turns.proofs.Ends.{ended_so}
use Rattle.group_turns.proofs.slicing.write_rebalance.Goals as goal

pub returns-in-Some-clause-moved : goal.returns-in-Some-clause-moved
returns-in-Some-clause-moved c =
    let how = rebalanced_said c.in-Some.how in
    record {
      how = how;
      text = c.write.ensures ∙ ap (λ (name : Bytes). event_text (Moved name how)) c.name.ensures;
      cause = ended_so c.args.m.now c.args.steps how c.args.sliced c.requires.why c.in-Some.ensures;
    }
