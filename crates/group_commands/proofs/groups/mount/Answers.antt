use Rattle.std.proofs.Common.{◌≡◌, List, Result, ap, refl, subst, sym, ◌∙◌}
use Rattle.refusal_lines.specs.Refusals.{meaning_of}
use Rattle.refusal_lines.specs.declared.refusal.Refusal.{Refusal}
use Rattle.asm_world.specs.Causes.{is_mounted_as}
use Rattle.asm_world.specs.Command.{Said}
use Rattle.asm_world.specs.Statement.{Alter, Mount}
use Rattle.asm_world.specs.World.{SessionEntry, entry_among}
use Rattle.session.specs.Meaning.{meaning}
use Rattle.session.specs.declared.reply.Reply.TheVariants as replies
use Rattle.session.proofs.Languages.{meaning_is}
use Rattle.group_commands.specs.Mounting.{MountsInto, option_of}
use Rattle.group_commands.proofs.MountAnswers.{already_served, too_many_served}
use Rattle.group_commands.proofs.MountDesks.{any_refused_answers, done_answers}
use Rattle.group_commands.proofs.groups.mount.Goals as goal

pub returns-then-has_mounted : goal.returns-then-has_mounted
unfolding meaning_of
returns-then-has_mounted g c =
    let says : meaning c.args.text.now ≡ Said (Alter c.args.group (Mount c.args.force)) = meaning_is c.args.text.now _ c.requires.asked in
    record {
      answers = record {
        paths = refl;
        host_stays = λ is. refl;
        ready = c.requires.ready;
        served = λ w below knows. (
          w,
          below,
          knows,
          rw (c.refused.ensures.reply, c.refused.ensures.found)
              (already_served _ c.args.text.now c.args.group c.args.force says c.args.desk.now.session w below knows _
              (ap (λ (es : List SessionEntry). is_mounted_as (entry_among es c.args.group)) knows.entries_are ∙ sym c.has_mounted.ensures.mounted ∙ c.if-has_mounted.true)),
        );
      };
    }

pub returns-then-is_full : goal.returns-then-is_full
returns-then-is_full g c =
    let says : meaning c.args.text.now ≡ Said (Alter c.args.group (Mount c.args.force)) = meaning_is c.args.text.now _ c.requires.asked in
    record {
      answers = record {
        paths = refl;
        host_stays = λ is. refl;
        ready = c.requires.ready;
        served = λ w below knows. (
          w,
          below,
          knows,
          rw (c.refused-then-is_full.ensures.reply, c.refused-then-is_full.ensures.found, c.too_many_groups.ensures)
              (too_many_served _ c.args.text.now c.args.group c.args.force says c.args.desk.now.session w below knows _
              (ap (λ (es : List SessionEntry). is_mounted_as (entry_among es c.args.group)) knows.entries_are ∙ sym c.has_mounted.ensures.mounted ∙ c.if-has_mounted.false)
              (sym (c.is_full.ensures w knows.entries_are) ∙ c.if-is_full.true)),
        );
      };
    }

pub returns-in-Ok : goal.returns-in-Ok
returns-in-Ok g c = record {
  answers = done_answers c.args.text.now c.args.group c.args.force c.requires.asked (option_of c.args.force) refl c.args.desk.now _ _ c.plain.ensures.found
      c.has_mounted.ensures.apart c.has_mounted.ensures.alike c.has_mounted.ensures.paired (sym c.has_mounted.ensures.mounted ∙ c.if-has_mounted.false) (λ w is. sym (c.is_full.ensures w is) ∙ c.if-is_full.false)
      g.met.B.Bay.sound (c.plain.ensures.reply ∙ ap (λ lines. replies.Done lines) c.new.ensures)
      (subst (λ (o : Result (Unit {0}) Refusal). MountsInto c.args.group (option_of c.args.force) o c.args.desk.now c.mount_named.new.desk)
      c.in-Ok.is (rw c.option_of.ensures at c.mount_named.ensures));
}

pub returns : goal.returns
returns g c = record {
  answers = any_refused_answers c.args.text.now c.args.group c.args.force c.requires.asked (option_of c.args.force) refl c.args.desk.now _ _ c.refused-in-Err.ensures.found
      c.has_mounted.ensures.apart c.has_mounted.ensures.alike c.has_mounted.ensures.paired (sym c.has_mounted.ensures.mounted ∙ c.if-has_mounted.false) (λ w is. sym (c.is_full.ensures w is) ∙ c.if-is_full.false)
      g.met.B.Bay.sound c.in-Err.refusal c.refused-in-Err.ensures.reply
      (subst (λ (o : Result (Unit {0}) Refusal). MountsInto c.args.group (option_of c.args.force) o c.args.desk.now c.mount_named.new.desk)
      c.in-Err.is (rw c.option_of.ensures at c.mount_named.ensures));
}
