use Rattle.std.proofs.Common.{refl}
use Rattle.session.proofs.AnsweredLines.{answered-lines}
use Rattle.report_commands.proofs.ReportsTold.{told_served}
use Rattle.report_commands.proofs.reports.tell.Goals as goal

pub returns : goal.returns
returns g c =
    let all = answered-lines c.args.text.now c.answer_lines.result c.args.desk.now c.told-lines.result c.requires.ready c.answer_lines.ensures.done c.answer_lines.ensures.refused c.answer_lines.ensures.found
    (λ w below knows. told_served _ c.args.text.now c.args.group.now c.args.desk.now.session _ c.requires.ready w below knows c.args.report c.told-lines.result c.requires.asked c.told-lines.ensures.told c.told-lines.ensures.cause) in
    record { answers = record { paths = refl; host_stays = λ is. refl; ready = c.requires.ready; served = all.served } }
