use Rattle.std.proofs.Common.{Err, refl}
use Rattle.asm_world.specs.Command.{Asked, DbRead}
use Rattle.session.specs.Desks.{paths_on}
use Rattle.session.specs.Sessions.{roster_of}
use Rattle.session.proofs.Languages.{meaning_is}
use Rattle.file_commands.proofs.Answering.{served_as}
use Rattle.file_commands.proofs.ReadsShown.{no_target}
use Rattle.file_commands.proofs.Spans.{no_call}
use Rattle.file_commands.proofs.files.read_file.Goals as goal

pub read_at-requires-clause-asked : goal.read_at-requires-clause-asked
read_at-requires-clause-asked g c = (c.args.path, c.requires.asked, rw (c.place.ensures, c.as_slice.ensures) at c.in-Ok.ensures.led)

pub returns : goal.returns
returns g c =
    let desk = c.args.desk.now in
    let text = c.args.text.now in
    let s = g.B.Bay.state desk.bay in
    let why = rw (c.place.ensures, c.as_slice.ensures) at c.in-Err.ensures.cause in
    record {
      answers = record {
        paths = refl;
        host_stays = λ is. refl;
        ready = c.requires.ready;
        served = λ w below knows. (
          w,
          below,
          knows,
          served_as (paths_on desk) text c.refused.result (Err c.in-Err.refusal) (roster_of desk.session) s s below w tt c.refused.ensures.reply c.refused.ensures.found
              (no_target (paths_on desk) text c.args.path c.args.at c.args.size (meaning_is text (Asked (DbRead c.args.path c.args.at c.args.size)) c.requires.asked) desk.session s s (g.met.B.Bay.sound desk.bay) (no_call s) w below knows
              c.in-Err.refusal why),
        );
      };
    }
