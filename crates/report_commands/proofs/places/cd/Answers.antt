use Rattle.std.proofs.Common.{refl}
use Rattle.asm_world.specs.Command.{Asked, Cd}
use Rattle.report_commands.proofs.Gone.{gone, not_gone}
use Rattle.session.proofs.Languages.{meaning_is}
use Rattle.report_commands.proofs.places.cd.Goals as goal

pub returns-in-Ok : goal.returns-in-Ok
returns-in-Ok g c =
    let led = rw c.as_slice.ensures at c.in-Ok.ensures.led in
    record {
      answers = record {
        paths = refl;
        host_stays = λ is. refl;
        ready = rw c.go.ensures c.requires.ready;
        served = λ w below knows. (
          record w { place = c.in-Ok.place },
          below,
          rw c.go.ensures (record { entries_are = knows.entries_are; place_is = refl; below_is = knows.below_is; told = knows.told }),
          rw (c.plain.ensures.reply, c.plain.ensures.found, c.new.ensures, c.go.ensures)
              (gone _ c.args.text.now c.args.path (meaning_is c.args.text.now (Asked (Cd c.args.path)) c.requires.asked) c.requires.asked c.args.desk.now.session _ c.requires.ready w below knows c.in-Ok.place led),
        );
      };
    }

pub returns : goal.returns
returns g c =
    let why = rw c.as_slice.ensures at c.in-Err.ensures.cause in
    record {
      answers = record {
        paths = refl;
        host_stays = λ is. refl;
        ready = c.requires.ready;
        served = λ w below knows. (
          w,
          below,
          knows,
          rw (c.refused.ensures.reply, c.refused.ensures.found)
              (not_gone _ c.args.text.now c.args.path (meaning_is c.args.text.now (Asked (Cd c.args.path)) c.requires.asked) c.requires.asked c.args.desk.now.session _ c.requires.ready w below knows c.in-Err.refusal why),
        );
      };
    }
