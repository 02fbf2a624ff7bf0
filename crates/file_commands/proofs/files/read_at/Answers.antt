use Rattle.std.proofs.Common.{refl}
use Rattle.asm_world.specs.Command.{Asked, DbRead}
use Rattle.session.specs.Desks.{paths_on}
use Rattle.session.specs.Sessions.{roster_of}
use Rattle.session.proofs.Languages.{meaning_is}
use Rattle.file_commands.proofs.Answering.{served_as}
use Rattle.file_commands.proofs.ReadsShown.{read_served}
use Rattle.file_commands.proofs.files.read_at.Goals as goal

pub returns : goal.returns
returns g c =
    let desk = c.args.desk.now in
    let text = c.args.text.now in
    let asks = c.requires.asked in
    let s = g.B.Bay.state desk.bay in
    let t = g.B.Bay.state c.read_lines-done.new.bay in
    let led = c.args.path.now in
    record {
      answers = record {
        paths = refl;
        host_stays = λ is. refl;
        ready = c.read_lines-done.ensures.carries.ready;
        served = λ w below knows. (
          w,
          below,
          knows,
          served_as (paths_on desk) text c.answer_lines.result c.read_lines-done.result (roster_of desk.session) s t below w c.answer_lines.ensures.done c.answer_lines.ensures.refused c.answer_lines.ensures.found
              (read_served (paths_on desk) text asks.0 c.args.at c.args.size (meaning_is text (Asked (DbRead asks.0 c.args.at c.args.size)) asks.1) desk.session s t (g.met.B.Bay.sound desk.bay) c.read_lines-done.ensures.reads w below knows
              led.group led.parts asks.2 c.read_lines-done.result c.read_lines-done.ensures.lines c.read_lines-done.ensures.cause),
        );
      };
    }
