use Rattle.std.proofs.Common.{refl}
use Rattle.refusal_lines.specs.Refusals.{meaning_of}
use Rattle.session.proofs.Outcomes.{no_memory}
use Rattle.session.proofs.refusing.no_memory.Goals as goal

pub returns : goal.returns
unfolding meaning_of
returns g c = record { answers = record { paths = refl; host_stays = λ is. refl; ready = c.requires.ready; served = λ w below knows. (w, below, knows, rw (c.plain.ensures.reply, c.plain.ensures.found) (no_memory _ c.args.text.now _ _ w)) } }
