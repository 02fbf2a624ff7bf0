use Rattle.std.proofs.Common.{refl, sym}
use Rattle.asm_world.specs.Command.{Asked, Find}
use Rattle.session.proofs.AnsweredLines.{answered-lines}
use Rattle.session.proofs.Languages.{meaning_is}
use Rattle.report_commands.proofs.FindShown.{found_nowhere, found_served}
use Rattle.report_commands.proofs.reports.find.Goals as goal

pub returns-in_default-led : goal.returns-in_default-led
returns-in_default-led g c =
    let says = meaning_is c.args.text.now (Asked (Find c.args.path c.args.pattern)) c.requires.asked in
    let none = rw (c.place.ensures, c.as_slice.ensures, c.in_default-led.is) at c.in-Ok.ensures in
    record {
      answers = record {
        paths = refl;
        host_stays = λ is. refl;
        ready = c.requires.ready;
        served = λ w below knows. (
          w,
          below,
          knows,
          rw (c.refused.ensures.reply, c.refused.ensures.found)
              (found_nowhere _ c.args.text.now c.args.path c.args.pattern says c.requires.asked c.args.desk.now.session _ c.requires.ready w below knows (sym none)),
        );
      };
    }

pub returns : goal.returns
returns g c =
    let says = meaning_is c.args.text.now (Asked (Find c.args.path c.args.pattern)) c.requires.asked in
    let to = rw (c.place.ensures, c.as_slice.ensures, c.in-Some.is) at c.in-Ok.ensures in
    let shown = rw c.as_slice-2.ensures at c.found-lines.ensures.found in
    let all = answered-lines c.args.text.now c.answer_lines.result c.args.desk.now c.found-lines.result c.requires.ready c.answer_lines.ensures.done c.answer_lines.ensures.refused c.answer_lines.ensures.found
    (λ w below knows. found_served _ c.args.text.now c.args.path c.args.pattern says c.requires.asked c.args.desk.now.session _ c.requires.ready w below knows c.in-Some.below.group c.in-Some.below.parts (sym to)
    c.found-lines.result shown c.found-lines.ensures.cause) in
    record { answers = record { paths = refl; host_stays = λ is. refl; ready = c.requires.ready; served = all.served } }
