use Rattle.std.proofs.Common.{refl}
use Rattle.asm_world.specs.Command.{Asked, ListGroups}
use Rattle.session.proofs.AnsweredLines.{answered-lines}
use Rattle.session.proofs.Languages.{meaning_is}
use Rattle.report_commands.proofs.GroupsTold.{groups_served}
use Rattle.report_commands.proofs.reports.list_groups.Goals as goal

pub returns : goal.returns
returns g c =
    let all = answered-lines c.args.text.now c.answer_lines.result c.args.desk.now c.groups_told-lines.result c.requires.ready c.answer_lines.ensures.done c.answer_lines.ensures.refused c.answer_lines.ensures.found
    (λ w below knows. groups_served _ c.args.text.now c.args.group (meaning_is c.args.text.now (Asked (ListGroups c.args.group)) c.requires.asked) c.args.desk.now.session _ w below knows
    c.groups_told-lines.result c.groups_told-lines.ensures.told c.groups_told-lines.ensures.cause) in
    record { answers = record { paths = refl; host_stays = λ is. refl; ready = c.requires.ready; served = all.served } }
