use Rattle.std.proofs.Common.{refl}
use Rattle.refusal_lines.specs.Refusals.{meaning_of}
use Rattle.asm_world.specs.Command.{Unreadable}
use Rattle.session.proofs.Languages.{meaning_is}
use Rattle.session.proofs.Outcomes.{unreadable}
use Rattle.session.proofs.refusing.unreadable.Goals as goal

pub returns : goal.returns
unfolding meaning_of
returns g c = record {
  answers = record {
    paths = refl;
    host_stays = λ is. refl;
    ready = c.requires.ready;
    served = λ w below knows. (w, below, knows, rw (c.plain.ensures.reply, c.plain.ensures.found) (unreadable _ c.args.text.now c.args.at _ _ w (meaning_is c.args.text.now (Unreadable c.args.at) c.requires.asked)));
  };
}
