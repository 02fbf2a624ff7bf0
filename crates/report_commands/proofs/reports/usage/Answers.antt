use Rattle.std.proofs.Common.{refl, sym}
use Rattle.asm_world.specs.Command.{Asked, Usage}
use Rattle.session.proofs.AnsweredLines.{answered-lines}
use Rattle.session.proofs.Languages.{meaning_is}
use Rattle.report_commands.proofs.UsageShown.{used_nowhere, used_served}
use Rattle.report_commands.proofs.reports.usage.Goals as goal

pub returns-in_default-led : goal.returns-in_default-led
returns-in_default-led g c =
    let says = meaning_is c.args.text.now (Asked (Usage c.args.path)) c.requires.asked in
    let none = rw (c.place.ensures, c.in_default-led.is) at c.in-Ok.ensures in
    record {
      answers = record {
        paths = refl;
        host_stays = λ is. refl;
        ready = c.requires.ready;
        served = λ w below knows. (
          w,
          below,
          knows,
          rw (c.refused.ensures.reply, c.refused.ensures.found)
              (used_nowhere _ c.args.text.now c.args.path says c.requires.asked c.args.desk.now.session _ c.requires.ready w below knows (sym none)),
        );
      };
    }

pub returns : goal.returns
returns g c =
    let says = meaning_is c.args.text.now (Asked (Usage c.args.path)) c.requires.asked in
    let to = rw (c.place.ensures, c.in-Some.is) at c.in-Ok.ensures in
    let all = answered-lines c.args.text.now c.answer_lines.result c.args.desk.now c.used-lines.result c.requires.ready c.answer_lines.ensures.done c.answer_lines.ensures.refused c.answer_lines.ensures.found
    (λ w below knows. used_served _ c.args.text.now c.args.path says c.requires.asked c.args.desk.now.session _ c.requires.ready w below knows c.in-Some.below.group c.in-Some.below.parts (sym to)
    c.used-lines.result c.used-lines.ensures.used c.used-lines.ensures.cause) in
    record { answers = record { paths = refl; host_stays = λ is. refl; ready = c.requires.ready; served = all.served } }
