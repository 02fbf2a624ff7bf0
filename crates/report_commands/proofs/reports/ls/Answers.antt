use Rattle.std.proofs.Common.{refl, sym}
use Rattle.asm_world.specs.Command.{Asked, Ls}
use Rattle.session.proofs.AnsweredLines.{answered-lines}
use Rattle.session.proofs.Languages.{meaning_is}
use Rattle.report_commands.proofs.ListShown.{list_served, never_nowhere}
use Rattle.report_commands.proofs.reports.ls.Goals as goal

pub returns-in_default-led : goal.returns-in_default-led
returns-in_default-led g c =
    let none = rw (c.place.ensures, c.in_default-led.is) at c.in-Ok.ensures in
    absurd (never_nowhere c.args.text.now c.args.long c.args.path _ c.requires.asked (sym none))

pub returns : goal.returns
returns g c =
    let says = meaning_is c.args.text.now (Asked (Ls c.args.long c.args.path)) c.requires.asked in
    let to = rw (c.place.ensures, c.in-Some.is) at c.in-Ok.ensures in
    let all = answered-lines c.args.text.now c.answer_lines.result c.args.desk.now c.listed-lines.result c.requires.ready c.answer_lines.ensures.done c.answer_lines.ensures.refused c.answer_lines.ensures.found
    (λ w below knows. list_served _ c.args.text.now c.args.long c.args.path says (rw says refl) c.args.desk.now.session _ c.requires.ready w below knows c.in-Some.parts c.listed-lines.result (sym to)
    (rw c.as_slice.ensures at c.listed-lines.ensures.lines) (rw c.as_slice.ensures at c.listed-lines.ensures.cause)) in
    record { answers = record { paths = refl; host_stays = λ is. refl; ready = c.requires.ready; served = all.served } }
