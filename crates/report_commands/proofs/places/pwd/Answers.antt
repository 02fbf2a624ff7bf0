use Rattle.std.proofs.Common.{◌≡◌, refl}
use Rattle.asm_world.specs.Command.{Asked, Pwd}
use Rattle.session.specs.Meaning.{meaning}
use Rattle.session.proofs.Languages.{meaning_is}
use Rattle.session.proofs.Outcomes.{told}
use Rattle.report_commands.proofs.places.pwd.Goals as goal

pub returns-in-Ok : goal.returns-in-Ok
returns-in-Ok g c =
    let says : meaning c.args.text.now ≡ Asked Pwd = meaning_is c.args.text.now (Asked Pwd) c.requires.asked in
    record {
      answers = record {
        paths = refl;
        host_stays = λ is. refl;
        ready = c.requires.ready;
        served = λ w below knows. (
          w,
          below,
          knows,
          rw (c.plain.ensures.reply, c.plain.ensures.found, c.in-Ok.ensures, c.place.ensures) (told _ c.args.text.now _ _ _ w (rw (says, knows.place_is) (refl, refl)) (rw says refl) (rw says tt) (rw says tt)),
        );
      };
    }
